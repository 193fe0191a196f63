-- `grown::grow` meets its contract: a table begun anew has none of the bounds in.
-- Assumes nothing.
use Rattle.rests.proofs.Puts.{started}
use Rattle.grown.proofs.grow.Goals as goal

pub put-put-requires-clause-exact : goal.put-put-requires-clause-exact
put-put-requires-clause-exact c = started _ _ _ _ c.start.ensures
