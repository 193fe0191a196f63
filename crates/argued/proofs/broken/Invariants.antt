-- `argued::broken` meets its contract: no entry before the counter is in the set and broken, and some entry is.
-- Assumes nothing.
use Rattle.std.proofs.Common.{ℕ, ◌<◌}
use Rattle.cells.specs.Cells.{cell}
use Rattle.order.specs.First.{marked}
use Rattle.ties.specs.Ties.{BrokenAt}
use Rattle.argued.proofs.broken.Given as goal

abbrev pub invariant-loop-e : goal.invariant-loop-e
invariant-loop-e l = (k : ℕ) → k < l.e → BrokenAt l.sheet (marked l.set) (cell l.d) k → ⊥
