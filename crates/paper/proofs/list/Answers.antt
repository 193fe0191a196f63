-- `paper::list` meets its contract: what `listing::list` lists is the list.
-- Assumes nothing.
use Rattle.std.proofs.Common.{arith}
use Rattle.paper.proofs.Lists.{lists}
use Rattle.paper.proofs.list.Goals as goal

pub returns : goal.returns
returns c = lists _ (omega (arith, c.list.ensures.count)) c.list.auto.room c.list.ensures.listed c.list.ensures.kept
