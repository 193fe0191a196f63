-- `probes::under` meets its contract, test by test.
-- Assumes nothing.
use Rattle.probes.proofs.Tests.{at-most, same, flag, both, either}
use Rattle.probes.proofs.under.Goals as goal

pub returns : goal.returns
returns c =
    let end = c.args.end in
    either (at-most 549755813888 end.gap) (both (same end.gap 0) (flag end.strict))
