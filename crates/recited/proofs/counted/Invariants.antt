-- `recited::counted` meets its contract: step by step (proofs/Reading.antt).
-- Assumes nothing.
use Rattle.recited.specs.Reading.{most}
use Rattle.recited.proofs.Reading.{Reads}
use Rattle.recited.proofs.counted.Given as goal

abbrev pub invariant-loop-n : goal.invariant-loop-n
invariant-loop-n l = Reads most l.bytes l.at l.n
