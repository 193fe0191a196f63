-- What the record of a step says, after the paper's table of steps, and when it has the form of one.
-- Assumes nothing.
use Rattle.std.specs.Prelude.{ℕ, ◌*◌, ◌/◌, ◌%◌, ◌≤◌, ◌<◌, ◌≡◌, ◌⊎◌, List, [], ◌∷◌, get_or, replicate}
use Rattle.big.specs.Big.{signed_of}
use Rattle.sheet.specs.Decode.{each}
use Rattle.reasons.specs.Step.{Bound, entry, entry_back, term, term_back, tie, tie_back, Step, by_walks, by_functions, closing_walk, closing_entry}
use Rattle.stated.specs.declared.Step.{Step as Record}

-- a bound is its kind times 256, and a number: 0 an entry, 1 an entry backwards, 2 a number or shift term, 3 the same backwards, 4 an
-- earlier tie step, 5 the same backwards
abbrev pub bound_kinds : ℕ → List Bound
bound_kinds n = entry n ∷ entry_back n ∷ term n ∷ term_back n ∷ tie n ∷ tie_back n ∷ []

unfoldable pub bound_of : ℕ → Bound
bound_of w = get_or (bound_kinds (w % 256)) (w / 256) (entry 0)

-- of no kind over 5
abbrev pub BoundFormed : ℕ → Type 0
BoundFormed w = w < 6 * 256

-- a walk of so many bounds
abbrev pub walk_of : (count : ℕ) (bounds : List ℕ) → List Bound
walk_of count bounds = each count (λ x. bound_of (get_or bounds x 0))

abbrev pub WalkFormed : (count : ℕ) (bounds : List ℕ) → Type 0
WalkFormed count bounds = (x : ℕ) → x < count → BoundFormed (get_or bounds x 0)

-- the steps of kind 0, 1, 2 and 3 that a record makes
abbrev pub step_kinds : Record → List Step
step_kinds r =
    by_walks r.a r.b (signed_of 8 r.c) (walk_of r.first r.there) (walk_of r.second r.back) ∷
    by_functions r.a r.b ∷
    closing_walk r.a (walk_of r.first r.there) ∷
    closing_entry r.a ∷ []

unfoldable pub step_of : Record → Step
step_of r = get_or (step_kinds r) r.kind (closing_entry 0)

-- a kind that there is, bounds of kinds that there are, and 0 in every field that the kind doesn't use
pub record Formed (r : Record) : Type 0 where
  pub kind : r.kind ≤ 3
  pub b : 2 ≤ r.kind → r.b ≡ 0
  pub c : 1 ≤ r.kind → r.c ≡ 0
  pub first : (r.kind ≡ 1) ⊎ (r.kind ≡ 3) → r.first ≡ 0
  pub second : 1 ≤ r.kind → r.second ≡ 0
  pub there : WalkFormed r.first r.there
  pub back : WalkFormed r.second r.back

-- the steps that a list of records says
unfoldable pub steps_of : List Record → List Step
steps_of [] = []
steps_of (r ∷ rs) = step_of r ∷ steps_of rs

-- what `get_or` gives past the end
abbrev pub blank : Record
blank = record { kind = 0; a = 0; b = 0; c = 0; first = 0; second = 0; there = replicate 129 0; back = replicate 129 0 }

abbrev pub record_at : List Record → ℕ → Record
record_at rs n = get_or rs n blank
