-- `paper::ties` meets its contract: after t turns, the steps of the needed ones of the first t ties are written.
-- Assumes nothing.
use Prim.Native.Nat.{◌+◌, ◌*◌, ◌≤◌}
use Rattle.order.specs.First.{marked}
use Rattle.reasons.specs.Pruned.{rank, pruned}
use Rattle.sketch.specs.Sketch.{steps_of}
use Rattle.paper.specs.Record.{steps_bytes, step_length}
use Rattle.paper.specs.Written.{Appended}
use Rattle.paper.proofs.ties.Given as goal

abbrev pub invariant-loop-t : goal.invariant-loop-t
invariant-loop-t l =
    (l.at ≤ l.from + rank (marked l.need) l.t * step_length)
    × Appended l.initial.room l.room l.from l.at (steps_bytes (pruned (marked l.need) (steps_of l.names l.ties l.walks l.t)))
