-- `paper::walk` meets its contract: after x turns, the first x bounds are written.
-- Assumes nothing.
use Prim.Native.Nat.{◌+◌, ◌*◌}
use mathlib.Core.Path.{◌≡◌}
use lib.ListN.{take, drop}
use Rattle.paper.specs.Written.{Appended}
use Rattle.paper.proofs.Walks.{numbered}
use Rattle.paper.proofs.walk.Given as goal

abbrev pub invariant-loop-x : goal.invariant-loop-x
invariant-loop-x l =
    (l.end ≡ l.from + 2 * l.x) × Appended l.initial.room l.room l.from l.end (numbered l.ranks l.names (take l.x (drop l.first l.walks)))
