-- How a term and an argument list are read. Nothing here need be believed: proofs/ says what it means for the text.
-- Assumes nothing.
use Rattle.std.specs.Prelude.{ℕ, zero, suc, ◌+◌, ◌*◌, ◌%◌, ◌≤◌, ◌≡◌, cond, List, eqb, length, get_or}
use Rattle.sheet.specs.Limits.{max_terms}
use Rattle.slips.specs.Outcome.{Outcome}
use Rattle.slips.specs.Outcome.Outcome.{read, refused}
use Rattle.numeral.specs.Model.{number}
use Rattle.met.specs.Model.{Read, read_says, memory_cells, count_in, Told, entered}
use Rattle.met.specs.Keys.{kind_one, symbol_one, a_one, b_one, names}

-- a memory of terms met
abbrev pub Held : List ℕ → Type 0
Held m = (length m ≡ memory_cells) × (count_in m ≤ max_terms)

-- a reader answers as told
pub record Answers (r : Read) (new : List ℕ) (t : Told) : Type 0 where
  pub outcome-is : read_says r ≡ t.outcome
  pub memory-is : new ≡ t.memory
  pub held : Held new

abbrev pub sent_back : List ℕ → (number place : ℕ) → Told
sent_back m N p = record { memory = m; outcome = refused N p }

-- a number's term: its key is a base and as many times the step, in two bytes
abbrev pub valued : List ℕ → (base step : ℕ) → Outcome → Told
valued m base step (read e n) = entered m (base + n * step % 65536) e
valued m base step (refused N p) = sent_back m N p

unfoldable pub value_at : List ℕ → ℕ → List ℕ → (least limit base step : ℕ) → Told
value_at bs i m least limit base step = valued m base step (number bs i least limit)

-- behind a plain term
abbrev pub shifted_at : List ℕ → List ℕ → Outcome → Told
shifted_at bs m (read e a) =
    cond (eqb (get_or bs e 0) 43) (value_at bs (suc e) m 0 32767 (2 * kind_one + a * a_one) 1)
    (cond (eqb (get_or bs e 0) 45) (value_at bs (suc e) m 0 32768 (2 * kind_one + a * a_one) 65535) (record { memory = m; outcome = read e a }))
shifted_at bs m (refused N p) = sent_back m N p

unfoldable pub shifted : List ℕ → Told → Told
shifted bs t = shifted_at bs t.memory t.outcome

-- the closing bracket
unfoldable pub closed_at : List ℕ → ℕ → List ℕ → (key : ℕ) → Told
closed_at bs e m key = cond (eqb (get_or bs e 0) 41) (entered m key (suc e)) (sent_back m 20 e)

-- behind the second argument, and behind the first
abbrev pub second_at : List ℕ → List ℕ → (f a : ℕ) → Outcome → Told
second_at bs m f a (read e b) = closed_at bs e m (4 * kind_one + f * symbol_one + a * a_one + b * b_one)
second_at bs m f a (refused N p) = sent_back m N p

abbrev pub first_at : (ℕ → List ℕ → Told) → List ℕ → List ℕ → (f : ℕ) → Outcome → Told
first_at reader bs m f (read e a) =
    cond (eqb (get_or bs e 0) 44) (let t = reader (suc e) m in second_at bs t.memory f a t.outcome) (closed_at bs e m (3 * kind_one + f * symbol_one + a * a_one))
first_at reader bs m f (refused N p) = sent_back m N p

-- an argument list, its terms read so
abbrev pub list_at : (ℕ → List ℕ → Told) → List ℕ → (i f : ℕ) → List ℕ → Told
list_at reader bs i f m = let t = reader (suc i) m in first_at reader bs t.memory f t.outcome

-- a term, its argument list read so
abbrev pub applied_at : (ℕ → ℕ → List ℕ → Told) → List ℕ → List ℕ → Outcome → Told
applied_at list bs m (read e f) = shifted bs (list e f m)
applied_at list bs m (refused N p) = sent_back m N p

abbrev pub term_at : (ℕ → ℕ → List ℕ → Told) → List ℕ → ℕ → List ℕ → Told
term_at list bs i m =
    cond (eqb (get_or bs i 0) 102) (applied_at list bs m (number bs (suc i) 0 255))
    (cond (eqb (get_or bs i 0) 120) (shifted bs (value_at bs (suc i) m 0 99 names 1))
    (cond (eqb (get_or bs i 0) 45) (value_at bs (suc i) m 1 32768 kind_one 65535) (value_at bs i m 0 32767 kind_one 1)))

-- within so many brackets more
unfoldable pub arguments : (depth : ℕ) → List ℕ → (i f : ℕ) → List ℕ → Told
arguments zero bs i f m = cond (eqb (get_or bs i 0) 40) (sent_back m 21 i) (sent_back m 20 i)
arguments (suc depth) bs i f m = cond (eqb (get_or bs i 0) 40) (list_at (term_at (arguments depth bs) bs) bs i f m) (sent_back m 20 i)

abbrev pub term : (depth : ℕ) → List ℕ → ℕ → List ℕ → Told
term depth bs i m = term_at (arguments depth bs) bs i m
