-- `forest::joining` meets its contract: the rows passed, from t down, have one label for both points.
-- Assumes nothing.
use Rattle.std.proofs.Common.{◌≡◌, ℕ, ◌≤◌}
use Rattle.cells.specs.Cells.{cell}
use Rattle.forest.proofs.joining.Given as goal

abbrev pub invariant-loop-u : goal.invariant-loop-u
invariant-loop-u l = (k : ℕ) → l.u ≤ k → k ≤ l.t → cell l.labels k l.i ≡ cell l.labels k l.j
