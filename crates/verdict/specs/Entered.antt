-- The steps from a table with all terms in to the verdict: the entries' bounds, equalities passed on, and the ≠ entries looked at.
-- Assumes nothing.
use Rattle.std.specs.Prelude.{ℕ, Bool, List, ℤ}
use Rattle.order.specs.First.{Set}
use Rattle.sheet.specs.Sheet.{Sheet, count_entries}
use Rattle.settled.specs.Settled.{points, Saturated, Apart}
use Rattle.steps.specs.Step.{Stepped}
use Rattle.steps.specs.True.{EntriesTrue, EntriesHeld}
use Rattle.pairs.specs.Passing.{FunctionsTrue}

-- what is asked and held beyond the bounds of terms and entries, and the step that sees to it
pub record RestTrue (s : Sheet) (S : Set) (D : ℕ) (v : ℕ → ℤ) : Type 0 where
  pub functions : FunctionsTrue s D v
  pub entries : EntriesTrue s S D v

pub record RestHeld (s : Sheet) (S : Set) (d : ℕ → ℕ → ℕ) : Type 0 where
  pub saturated : Saturated s d
  pub apart : Apart s S d

abbrev pub RestPut : Sheet → Set → List ℕ → List ℕ → Bool → Type 0
RestPut s S = Stepped (points s) (RestTrue s S) (RestHeld s S)

-- and with the entries put in before it
pub record EnteredHeld (s : Sheet) (S : Set) (d : ℕ → ℕ → ℕ) : Type 0 where
  pub entries : EntriesHeld s S (count_entries s) d
  pub rest : RestHeld s S d

abbrev pub EnteredPut : Sheet → Set → List ℕ → List ℕ → Bool → Type 0
EnteredPut s S = Stepped (points s) (RestTrue s S) (EnteredHeld s S)
