-- `argued::write_path` meets its contract: the needed ties, the closing entry, and the head.
-- Assumes nothing.
use Rattle.std.proofs.Common.{arith}
use Rattle.paper.proofs.Heads.{head-length}
use Rattle.argued.proofs.Ends.{path-ends}
use Rattle.argued.proofs.write_path.Goals as goal

pub head-requires : goal.head-requires
head-requires c =
    omega (arith, c.requires.0, c.write_ties-kept.ensures, simp head-length at c.step-end.ensures.end_is, c.step-end.auto.room, c.write_ties-kept.auto.room)

pub returns : goal.returns
returns c =
    let (R, q, few) = c.write_ties-kept.ensures.ranked in
    path-ends c.args.names.now c.args.ties.now c.args.walks.now R q c.write_ties-kept.ensures.steps
    (omega (arith, c.requires.0, c.write_ties-kept.ensures, simp head-length at c.step-end.ensures.end_is))
    c.args.e.0 c.requires.1 c.step-end.ensures c.head.ensures
