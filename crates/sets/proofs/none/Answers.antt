-- `sets::none` meets its contract: words of zero have no bit.
-- Assumes nothing.
use Rattle.sets.proofs.Bits.{empty}
use Rattle.sets.proofs.none.Goals as goal

pub returns : goal.returns
returns c = empty
