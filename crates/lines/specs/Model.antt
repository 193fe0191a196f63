-- How a line is read. Nothing here need be believed: proofs/ says what it means for the text.
-- Assumes nothing.
use Rattle.std.specs.Prelude.{ℕ, suc, ◌+◌, ◌*◌, ◌≡◌, Bool, cond, ◌||◌, List, eqb, get_or, set, Result, Ok, Err}
use Rattle.sheet.specs.Limits.{max_terms}
use Rattle.text.specs.Machine.{is_digit}
use Rattle.sheet.specs.declared.Relation.{Relation}
use Rattle.sheet.specs.Says.{relation_says}
use Rattle.written.specs.Written.{kind_of}
use Rattle.slips.specs.declared.Slip.{Slip}
use Rattle.slips.specs.Says.{number_of, place_of}
use Rattle.slips.specs.Outcome.{Outcome, Found}
use Rattle.slips.specs.Outcome.Outcome.{read, refused}
use Rattle.slips.specs.Outcome.{found_says}
use Rattle.met.specs.Model.{Told}
use Rattle.met.specs.Keys.{kind_one, a_one, b_one}
use Rattle.terms.specs.Model.{Held, sent_back, term}

-- a reader answers as told
pub record FoundAs (r : Found) (new : List ℕ) (t : Told) : Type 0 where
  pub outcome-is : found_says r ≡ t.outcome
  pub memory-is : new ≡ t.memory
  pub held : Held new

-- a relation is told by its kind
abbrev pub relation_read : Result (ℕ × Relation) Slip → Outcome
relation_read (Ok found) = read found.0 (kind_of (relation_says found.1))
relation_read (Err slip) = refused (number_of slip) (place_of slip)

unfoldable pub relation_at : List ℕ → ℕ → Outcome
relation_at bs i =
    cond (eqb (get_or bs i 0) 61) (read (suc i) 0)
    (cond (eqb (get_or bs i 0) 33) (cond (eqb (get_or bs (suc i) 0) 61) (read (suc (suc i)) 1) (refused 20 (suc i)))
    (cond (eqb (get_or bs i 0) 60) (cond (eqb (get_or bs (suc i) 0) 61) (read (suc (suc i)) 2) (read (suc i) 3)) (refused 20 i)))

-- behind the right side, behind the relation and behind the left side
abbrev pub end_at : List ℕ → List ℕ → (l kind a : ℕ) → Outcome → Told
end_at bs m l kind a (read e b) =
    cond (eqb (get_or bs e 0) 10) (record { memory = set m (max_terms + 1 + l) (kind * kind_one + a * a_one + b * b_one); outcome = read (suc e) (suc l) }) (sent_back m 20 e)
end_at bs m l kind a (refused N p) = sent_back m N p

abbrev pub right_at : List ℕ → List ℕ → (l a : ℕ) → Outcome → Told
right_at bs m l a (read e kind) = let t = term 16 bs e m in end_at bs t.memory l kind a t.outcome
right_at bs m l a (refused N p) = sent_back m N p

abbrev pub left_at : List ℕ → List ℕ → (l : ℕ) → Outcome → Told
left_at bs m l (read e a) = right_at bs m l a (relation_at bs e)
left_at bs m l (refused N p) = sent_back m N p

abbrev pub line_at : List ℕ → ℕ → List ℕ → (l : ℕ) → Told
line_at bs i m l = let t = term 16 bs i m in left_at bs t.memory l t.outcome

abbrev pub begins_line : ℕ → Bool
begins_line b = is_digit b || eqb b 45 || eqb b 102 || eqb b 120
