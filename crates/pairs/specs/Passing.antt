-- Passing equalities on: what a pass over pairs of terms leaves, and what its clash shows.
-- Assumes nothing.
use Rattle.std.specs.Prelude.{ℕ, ◌<◌, ◌≡◌, Bool, true, false, List, ℤ, pos, Result, Ok, Err}
use Rattle.closure.specs.Closed.{TiedAt}
use Rattle.levels.specs.Level.{sum_to}
use Rattle.cells.specs.Cells.{cell, Kept}
use Rattle.sheet.specs.Sheet.{Sheet, count_terms, term_at}
use Rattle.meaning.specs.Meaning.{SameInput}
use Rattle.settled.specs.Settled.{points, Saturated}
use Rattle.steps.specs.Step.{Stepped, Went, Refuted}
use Rattle.steps.specs.True.{TieTrue}
use Rattle.joined.specs.Joined.{Joined}
use Rattle.pairs.specs.declared.Clash.{Clash}

-- what a sheet asks of its functions
pub record FunctionsTrue (s : Sheet) (D : ℕ) (v : ℕ → ℤ) : Type 0 where
  pub functions : (i j : ℕ) → i < count_terms s → j < count_terms s → SameInput (λ a b. v a ≡ v b) (term_at s i) (term_at s j) → v i ≡ v j

-- the step that passes all equalities on
abbrev pub FunctionsPut : Sheet → List ℕ → List ℕ → Bool → Type 0
FunctionsPut s = Stepped (points s) (FunctionsTrue s) (Saturated s)

-- where terms i and j have the same input, they are tied at 0
pub record PairTied (s : Sheet) (i j : ℕ) (d : ℕ → ℕ → ℕ) : Type 0 where
  pub tied : Joined d (term_at s i) (term_at s j) → TiedAt d i j (pos 0)

-- and so for each of the first m
pub record EachTied (P : ℕ → (ℕ → ℕ → ℕ) → Type 0) (m : ℕ) (d : ℕ → ℕ → ℕ) : Type 0 where
  pub each : (k : ℕ) → k < m → P k d

-- in row i each pair is, and in the table each row
abbrev pub RowTied : Sheet → ℕ → (ℕ → ℕ → ℕ) → Type 0
RowTied s i = EachTied (PairTied s i) i

abbrev pub AllTied : Sheet → (ℕ → ℕ → ℕ) → Type 0
AllTied s = EachTied (RowTied s) (count_terms s)

-- the sum of all cells: it falls with each tie that is new
unfoldable pub total : ℕ → (ℕ → ℕ → ℕ) → ℕ
total n d = sum_to n (λ i. sum_to n (λ j. d i j))

-- a pass found a clash, or tied terms that weren't, or found nothing to do: then P already
pub data Passing (s : Sheet) (P : (ℕ → ℕ → ℕ) → Type 0) (old : List ℕ) : List ℕ → Result Bool Clash → Type 0 where
  clash : {new : List ℕ} {e : Clash} → Refuted (points s) (FunctionsTrue s) old → Kept (points s) old new → Passing s P old new (Err e)
  tied : {new : List ℕ} → Went (points s) (FunctionsTrue s) (λ d. Unit) old new → Kept (points s) old new
      → total (points s) (cell new) < total (points s) (cell old) → Passing s P old new (Ok true)
  still : P (cell old) → Passing s P old old (Ok false)

-- so for one pair: to tie a and b at 0 clashes, or they weren't tied and now are, or they were
pub data Tying (n a b : ℕ) (old : List ℕ) : List ℕ → Result Bool Clash → Type 0 where
  refused : {new : List ℕ} {e : Clash} → Refuted n (TieTrue a b (pos 0)) old → Kept n old new → Tying n a b old new (Err e)
  fresh : {new : List ℕ} → Went n (TieTrue a b (pos 0)) (λ d. Unit) old new → Kept n old new
      → total n (cell new) < total n (cell old) → Tying n a b old new (Ok true)
  already : TiedAt (cell old) a b (pos 0) → Tying n a b old old (Ok false)

-- what a loop over passes answers in the end: one of them tied something, or none did
abbrev pub passed_of : Bool → Result Bool Clash
passed_of b = Ok b

-- a pair that isn't tied yet is tied now, or that clashes
abbrev pub put_of : Bool → Result Bool Clash
put_of true = Ok true
put_of false = Err (record {})
