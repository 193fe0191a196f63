-- `big::write` meets its contract: the bytes are written from the last to the first (Writing.antt).
-- Assumes nothing.
use Rattle.big.proofs.Writing.{Written}
use Rattle.big.proofs.write.Given as goal

abbrev pub invariant-loop-k : goal.invariant-loop-k
invariant-loop-k l = Written l.initial.out l.out l.at l.width l.v l.rest l.k
