-- `laid::tie_up` meets its contract: ties between different groups are fewer than the points, so there is room for one more.
-- Assumes nothing.
use Rattle.std.proofs.Common.{arith}
use Rattle.forest.proofs.Rows.{two-labels}
use Rattle.forest.proofs.Few.{few, few-more}
use Rattle.laid.proofs.Longer.{tied-now}
use Rattle.laid.proofs.tie_up.Goals as goal

pub together-requires : goal.together-requires
together-requires c = let l = few (omega arith) c.requires.labelled in omega arith

pub push-requires-clause-ties_len : goal.push-requires-clause-ties_len
push-requires-clause-ties_len c =
    let l = few-more c.requires.labelled c.requires.ties_len.4 c.requires.ties_len.5 (two-labels c.together.ensures c.if-together.false) in
    omega arith

pub returns : goal.returns
returns c =
    let apart = two-labels c.together.ensures c.if-together.false in
    let l = few-more c.requires.labelled c.requires.ties_len.4 c.requires.ties_len.5 apart in
    tied-now c.requires.ties_len.2 (omega arith) c.requires.ties_len.4 c.requires.ties_len.5 c.requires.labelled apart c.push.ensures
