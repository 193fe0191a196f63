-- `roots::root_of` meets its contract: none of the points before the counter is tied to a.
-- Assumes nothing.
use Prim.Native.Nat.{ℕ, ◌<◌}
use lib.IntN.{pos}
use Rattle.closure.specs.Closed.{TiedAt}
use Rattle.cells.specs.Cells.{cell}
use Rattle.roots.proofs.root_of.Given as goal

abbrev pub invariant-loop-r : goal.invariant-loop-r
invariant-loop-r l = (p : ℕ) → p < l.r → TiedAt (cell l.d) l.a p (pos 0) → ⊥
