-- `forest::join` meets its contract: the cells of the new row before the counter are relabelled, and no other is touched.
-- Assumes nothing.
use Rattle.forest.specs.Labels.{Joined}
use Rattle.forest.proofs.join.Given as goal

abbrev pub invariant-loop-i : goal.invariant-loop-i
invariant-loop-i l = Joined l.i l.t l.a l.b l.initial.labels l.labels
