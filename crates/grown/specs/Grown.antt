-- A list of bounds with ties of functions behind it, and the table that rests on it.
-- Assumes nothing.
use Rattle.std.specs.Prelude.{ℕ, ◌+◌, ◌*◌, ◌≤◌, ◌<◌, ◌≡◌, List, pos, get_or}
use Rattle.kind.specs.Code.{base, sum_of}
use Rattle.kind.specs.Kind.{zero_gap, kind_of}
use Rattle.closure.specs.Closed.{TiedAt}
use Rattle.sheet.specs.Sheet.{Sheet, count_terms}
use Rattle.settled.specs.Settled.{points, Saturated}
use Rattle.walked.specs.Borne.{Exact}
use Rattle.layers.specs.Bounds.{nowhere, bounds, from_at, to_at, code_at, Sound, Listed}
use Rattle.layers.specs.declared.Bound.{Bound}
use Rattle.joined.specs.Joined.{JoinedAt}

-- bounds e and e + 1 are a tie of two applications, there and back, which have the same input and weren't tied by the bounds before them:
-- so says a table that rests on those
pub record FunctionTie (s : Sheet) (list : List Bound) (e : ℕ) : Type 0 where
  pub d : ℕ → ℕ → ℕ
  pub exact : Exact (points s) (Listed (bounds e list)) d
  pub left< : from_at list e < count_terms s
  pub right< : to_at list e < count_terms s
  pub joined : JoinedAt s d (from_at list e) (to_at list e)
  pub untied : TiedAt d (from_at list e) (to_at list e) (pos 0) → ⊥
  pub gap : kind_of (code_at list e) ≡ zero_gap
  pub back_from : from_at list (e + 1) ≡ to_at list e
  pub back_to : to_at list (e + 1) ≡ from_at list e
  pub back-gap : kind_of (code_at list (e + 1)) ≡ zero_gap

-- behind the first m bounds come ties of functions, up to `listed`; there are fewer than points
pub record FunctionTies (s : Sheet) (list : List Bound) (m listed : ℕ) : Type 0 where
  pub count : ℕ
  pub few : count ≤ count_terms s
  pub listed-is : listed ≡ m + 2 * count
  pub tie : (k : ℕ) → k < count → FunctionTie s list (m + 2 * k)

-- the table d has the first `put` of the listed bounds; either the next one closes a walk under zero, or equalities are passed on
pub record Grew (s : Sheet) (list : List Bound) (m : ℕ) (d : ℕ → ℕ → ℕ) (listed put : ℕ) : Type 0 where
  pub ties : FunctionTies s list m listed
  pub sound : Sound (points s) (bounds listed list)
  pub at-most : put ≤ listed
  pub exact : Exact (points s) (Listed (bounds put list)) d
  pub shut : put < listed → sum_of (code_at list put) (d (to_at list put) (from_at list put)) < base
  pub saturated : put ≡ listed → Saturated s d

-- the first m bounds are as they were
pub record Front (m : ℕ) (list list' : List Bound) : Type 0 where
  pub bounds-kept : (k : ℕ) → k < m → get_or list' k nowhere ≡ get_or list k nowhere
