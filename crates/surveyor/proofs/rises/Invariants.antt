-- `surveyor::rises` meets its contract. The loop's invariant: the first numbers of the list rise below L and are those marked.
-- Assumes nothing.
use Rattle.surveyor.proofs.Marking.{SoFar}
use Rattle.surveyor.proofs.rises.Given as goal

abbrev pub invariant-loop-e : goal.invariant-loop-e
invariant-loop-e l = SoFar l.entries l.list l.listed l.least l.e-index
