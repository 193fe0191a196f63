-- How many bounds of a list a table rests on, when the next ones were put in as far as they go.
-- Assumes nothing.
use Rattle.std.specs.Prelude.{ℕ, ◌≤◌, ◌<◌, List}
use Rattle.kind.specs.Code.{base, sum_of}
use Rattle.walked.specs.Borne.{Exact}
use Rattle.cells.specs.Cells.{cell, Kept}
use Rattle.layers.specs.Bounds.{bounds, from_at, to_at, code_at, Listed}
use Rattle.layers.specs.declared.Bound.{Bound}

-- new is old with the bounds from number `start` up to r in; fewer than m only where the next one closes a walk under zero
pub record Rested (n m : ℕ) (list : List Bound) (start : ℕ) (old new : List ℕ) (r : ℕ) : Type 0 where
  pub at_least : start ≤ r
  pub at-most : r ≤ m
  pub exact : Exact n (Listed (bounds r list)) (cell new)
  pub shut : r < m → sum_of (code_at list r) (cell new (to_at list r) (from_at list r)) < base
  pub kept : Kept n old new
  pub tighter : (i j : ℕ) → i < n → j < n → cell new i j ≤ cell old i j
