-- `ledger::pair` meets its contract (proofs/Put.antt).
-- Assumes nothing.
use Rattle.std.proofs.Common.{arith}
use Rattle.ledger.proofs.Put.{pair_put}
use Rattle.ledger.proofs.pair.Goals as goal

pub returns : goal.returns
returns c = pair_put _ _ _ c.both.ensures (omega arith)
