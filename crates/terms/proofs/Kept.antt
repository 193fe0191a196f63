-- The readers of terms leave alone what stands behind the terms in the memory.
-- Assumes nothing.
use Prim.Native.Nat.{ℕ, zero, suc, ◌+◌, ◌-◌, ◌*◌}
use mathlib.Core.Path.{◌≡◌, refl, ◌∙◌}
use mathlib.Core.Bool.{Bool, true, false, cond}
use mathlib.Core.List.{List}
use lib.Dec.{ltb, leb, eqb}
use lib.ListN.{get_or, take, drop, set}
use lib.Seq.{drop-set-lt}
use native.Mathlib.Omega.{arith}
use Rattle.sheet.specs.Limits.{max_terms}
use Rattle.slips.specs.Outcome.{Outcome}
use Rattle.slips.specs.Outcome.Outcome.{read, refused}
use Rattle.numeral.specs.Model.{number}
use Rattle.met.specs.Model.{count_in, place_in, Told, entered}
use Rattle.met.specs.Keys.{kind_one, symbol_one, a_one, names}
use Rattle.terms.specs.Model.{Held, sent_back, valued, value_at, shifted_at, shifted, closed_at, second_at, first_at, list_at, applied_at, term_at, arguments, term}
use Rattle.terms.proofs.Answered.{entered_held}

pub record Kept (m : List ℕ) (t : Told) : Type 0 where
  pub held : Held t.memory
  pub same : drop (max_terms + 1) t.memory ≡ drop (max_terms + 1) m

onward : {m : List ℕ} {t u : Told} → Kept m t → Kept t.memory u → Kept m u
onward a b = record { held = b.held; same = b.same ∙ a.same }

sent : {m : List ℕ} {N p : ℕ} → Held m → Kept m (sent_back m N p)
sent h = record { held = h; same = refl }

entered-kept : (m : List ℕ) (key e : ℕ) → Held m → Kept m (entered m key e)
unfolding entered
entered-kept m key e h = record { held = entered_held m key e h; same = go (ltb (place_in (take (count_in m) m) key) (count_in m)) (leb max_terms (count_in m)) }
  where
    told : Bool → Bool → Told
    told t u =
        cond t (record { memory = m; outcome = read e (place_in (take (count_in m) m) key) })
        (cond u (record { memory = m; outcome = refused 23 (e - 1) }) (record { memory = set (set m (count_in m) key) max_terms (count_in m + 1); outcome = read e (count_in m) }))

    go : (t u : Bool) → drop (max_terms + 1) (told t u).memory ≡ drop (max_terms + 1) m
    go true u = refl
    go false true = refl
    go false false =
        let l = h.1 in
        drop-set-lt (max_terms + 1) (set m (count_in m) key) max_terms (count_in m + 1) (omega arith) ∙ drop-set-lt (max_terms + 1) m (count_in m) key (omega arith)

value-kept : (bs : List ℕ) (i : ℕ) (m : List ℕ) (least limit base step : ℕ) → Held m → Kept m (value_at bs i m least limit base step)
unfolding value_at
value-kept bs i m least limit base step h = go (number bs i least limit)
  where
    go : (o : Outcome) → Kept m (valued m base step o)
    go (read e n) = entered-kept m _ e h
    go (refused N p) = sent h

shift_kept : (bs m : List ℕ) (o : Outcome) → Held m → Kept m (shifted_at bs m o)
shift_kept bs m (refused N p) h = sent h
shift_kept bs m (read e a) h = go (eqb (get_or bs e 0) 43) (eqb (get_or bs e 0) 45)
  where
    go : (t u : Bool) → Kept m (cond t (value_at bs (suc e) m 0 32767 (2 * kind_one + a * a_one) 1) (cond u (value_at bs (suc e) m 0 32768 (2 * kind_one + a * a_one) 65535) (record { memory = m; outcome = read e a })))
    go true u = value-kept bs (suc e) m _ _ _ _ h
    go false true = value-kept bs (suc e) m _ _ _ _ h
    go false false = record { held = h; same = refl }

closed-kept : (bs : List ℕ) (e : ℕ) (m : List ℕ) (key : ℕ) → Held m → Kept m (closed_at bs e m key)
unfolding closed_at
closed-kept bs e m key h = go (eqb (get_or bs e 0) 41)
  where
    go : (t : Bool) → Kept m (cond t (entered m key (suc e)) (sent_back m 20 e))
    go true = entered-kept m key (suc e) h
    go false = sent h

-- a reader of argument lists, and one of terms
abbrev ListKeeps : (ℕ → ℕ → List ℕ → Told) → Type 0
ListKeeps list = (i f : ℕ) (m : List ℕ) → Held m → Kept m (list i f m)

abbrev TermKeeps : (ℕ → List ℕ → Told) → Type 0
TermKeeps reader = (i : ℕ) (m : List ℕ) → Held m → Kept m (reader i m)

term-kept-by : (bs : List ℕ) (list : ℕ → ℕ → List ℕ → Told) → ListKeeps list → TermKeeps (term_at list bs)
unfolding shifted
term-kept-by bs list keeps i m h = go (eqb (get_or bs i 0) 102) (eqb (get_or bs i 0) 120) (eqb (get_or bs i 0) 45)
  where
    applied : (o : Outcome) → Kept m (applied_at list bs m o)
    applied (read e f) = let k = keeps e f m h in onward k (shift_kept bs (list e f m).memory (list e f m).outcome k.held)
    applied (refused N p) = sent h

    go : (f x n : Bool) →
        Kept m (cond f (applied_at list bs m (number bs (suc i) 0 255)) (cond x (shifted bs (value_at bs (suc i) m 0 99 names 1)) (cond n (value_at bs (suc i) m 1 32768 kind_one 65535) (value_at bs i m 0 32767 kind_one 1))))
    go true x n = applied (number bs (suc i) 0 255)
    go false true n =
        let v = value_at bs (suc i) m 0 99 names 1 in
        let k = value-kept bs (suc i) m 0 99 names 1 h in
        onward k (shift_kept bs v.memory v.outcome k.held)
    go false false true = value-kept bs (suc i) m 1 32768 kind_one 65535 h
    go false false false = value-kept bs i m 0 32767 kind_one 1 h

list-kept-by : (bs : List ℕ) (reader : ℕ → List ℕ → Told) → TermKeeps reader → ListKeeps (list_at reader bs)
list-kept-by bs reader keeps i f m h = let k = keeps (suc i) m h in onward k (first (reader (suc i) m).memory (reader (suc i) m).outcome k.held)
  where
    second : (m : List ℕ) (a : ℕ) (o : Outcome) → Held m → Kept m (second_at bs m f a o)
    second m a (read e b) h = closed-kept bs e m _ h
    second m a (refused N p) h = sent h

    first : (m : List ℕ) (o : Outcome) → Held m → Kept m (first_at reader bs m f o)
    first m (refused N p) h = sent h
    first m (read e a) h = go (eqb (get_or bs e 0) 44)
      where
        go : (t : Bool) → Kept m (cond t (second_at bs (reader (suc e) m).memory f a (reader (suc e) m).outcome) (closed_at bs e m (3 * kind_one + f * symbol_one + a * a_one)))
        go true = let k = keeps (suc e) m h in onward k (second (reader (suc e) m).memory a (reader (suc e) m).outcome k.held)
        go false = closed-kept bs e m _ h

arguments-kept : (bs : List ℕ) (d : ℕ) → ListKeeps (arguments d bs)
unfolding arguments
arguments-kept bs zero i f m h = go (eqb (get_or bs i 0) 40)
  where
    go : (t : Bool) → Kept m (cond t (sent_back m 21 i) (sent_back m 20 i))
    go true = sent h
    go false = sent h
arguments-kept bs (suc d) i f m h = go (list-kept-by bs _ (term-kept-by bs (arguments d bs) (arguments-kept bs d)) i f m h) (eqb (get_or bs i 0) 40)
  where
    go : Kept m (list_at (term_at (arguments d bs) bs) bs i f m) → (t : Bool) → Kept m (cond t (list_at (term_at (arguments d bs) bs) bs i f m) (sent_back m 20 i))
    go k true = k
    go k false = sent h

pub term-kept : (bs : List ℕ) (d i : ℕ) (m : List ℕ) → Held m → Kept m (term d bs i m)
term-kept bs d i m h = term-kept-by bs (arguments d bs) (arguments-kept bs d) i m h
