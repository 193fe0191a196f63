-- `probes::tied_at` meets its contract: what the links say, answer by answer.
-- Assumes nothing.
use Rattle.probes.proofs.Told.{at_gap}
use Rattle.probes.proofs.tied_at.Goals as goal

pub returns : goal.returns
returns c = rw c.eq.ensures (at_gap c.args.links.now c.args.i c.args.j c.args.gap c.between.result c.between.ensures)
