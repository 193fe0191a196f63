-- `probes::within` meets its contract (proofs/Signed.antt).
-- Assumes nothing.
use borrow.Author.Rules.{rules}
use Rattle.probes.proofs.Signed.{within-told}
use Rattle.probes.proofs.within.Goals as goal

pub returns : goal.returns
returns c = within-told c.args.c (search rules)
