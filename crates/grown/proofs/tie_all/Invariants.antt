-- `grown::tie_all` meets its contract: before each turn the table has all that is listed.
-- Assumes nothing.
use Prim.Native.Nat.{◌-◌}
use Rattle.cells.specs.Cells.{Kept}
use Rattle.settled.specs.Settled.{points}
use Rattle.jotted.specs.Jotted.{most}
use Rattle.grown.specs.Grown.{Front}
use Rattle.grown.proofs.Growing.{Growing}
use Rattle.grown.proofs.tie_all.Given as goal

abbrev pub invariant-loop-i : goal.invariant-loop-i
invariant-loop-i l =
    Growing l.sheet l.m l.list l.d l.listed × Front l.m l.initial.list l.list
    × Kept (points l.sheet) l.initial.d l.d

abbrev pub decreases-loop-i : goal.decreases-loop-i
decreases-loop-i l = most - l.listed
