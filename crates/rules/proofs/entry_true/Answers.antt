-- `rules::entry_true` meets its contract: the two sides as natural numbers are related as the values are.
-- Assumes nothing.
use lib.ListN.{get_or}
use Rattle.sheet.specs.Says.{relation_says}
use Rattle.rules.proofs.Values.{value-related}
use Rattle.rules.proofs.entry_true.Goals as goal

pub returns : goal.returns
returns c =
    let args = c.args in
    value-related _ _ (get_or args.v.now args.t 0) _ _ (relation_says args.e.relation) c.related.ensures
