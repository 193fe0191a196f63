-- `rests::put` meets its contract: the table rests on the bounds before the counter.
-- Assumes nothing.
use Rattle.rests.specs.Rested.{Rested}
use Rattle.rests.proofs.put.Given as goal

abbrev pub invariant-loop-k : goal.invariant-loop-k
invariant-loop-k l = Rested l.n l.k l.list l.from l.initial.d l.d l.k
