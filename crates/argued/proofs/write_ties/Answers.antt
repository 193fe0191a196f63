-- `argued::write_ties` meets its contract: the ranks, and the steps of the needed ties.
-- Assumes nothing.
use Rattle.std.proofs.Common.{arith}
use Rattle.order.specs.First.{marked}
use Rattle.paper.proofs.Ranks.{rank-low}
use Rattle.argued.proofs.write_ties.Goals as goal

pub returns-clause-ranked : goal.returns-clause-ranked
returns-clause-ranked c =
    let low = rank-low (marked c.args.need.now) c.args.count in
    (c.rank-kept.ensures.ranks, c.rank-kept.ensures.answer, omega (arith, c.rank-kept.ensures.answer))
