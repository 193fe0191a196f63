-- `sorted::insert` meets its contract: the keys from the counter on have moved up (proofs/Inserted.antt).
-- Assumes nothing.
use Rattle.sorted.proofs.Inserted.{Shifted}
use Rattle.sorted.proofs.insert.Given as goal

abbrev pub invariant-loop-below : goal.invariant-loop-below
invariant-loop-below l = Shifted l.m l.initial.keys l.keys l.key l.below
