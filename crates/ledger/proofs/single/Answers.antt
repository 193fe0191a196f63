-- `ledger::single` meets its contract (proofs/Put.antt).
-- Assumes nothing.
use Rattle.std.proofs.Common.{arith}
use Rattle.ledger.proofs.Put.{single-put}
use Rattle.ledger.proofs.single.Goals as goal

pub returns : goal.returns
returns c = single-put _ _ _ c.one.ensures (omega arith)
