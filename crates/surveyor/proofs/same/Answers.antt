-- `surveyor::same` meets its contract: rows of which the first marks are the same (proofs/Agreeing.antt).
-- Assumes nothing.
use Rattle.surveyor.proofs.Agreeing.{fronts-told}
use Rattle.surveyor.proofs.same.Goals as goal

pub returns : goal.returns
returns c = fronts-told c.args.count c.args.listed.now c.args.entries.now c.requires.0 c.requires.1 c.eq.result c.eq.ensures
