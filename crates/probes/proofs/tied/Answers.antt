-- `probes::tied` meets its contract: what the links say, answer by answer.
-- Assumes nothing.
use Rattle.probes.proofs.Told.{has_gap}
use Rattle.probes.proofs.tied.Goals as goal

pub returns : goal.returns
returns c = rw c.is_some.ensures (has_gap c.args.links.now c.args.i c.args.j c.between.result c.between.ensures)
