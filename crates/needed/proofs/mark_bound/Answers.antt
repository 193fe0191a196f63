-- `needed::mark_bound` meets its contract.
-- Assumes nothing.
use Rattle.std.proofs.Common.{arith}
use Rattle.needed.proofs.Marking.{marks-one}
use Rattle.needed.proofs.mark_bound.Goals as goal

pub returns-then-name-ge-TIE : goal.returns-then-name-ge-TIE
returns-then-name-ge-TIE c = marks-one _ _ _ (omega arith) (c.requires.1 (omega arith))
