-- `pairs::pass_pair` meets its contract: the answers of proofs/Pairs.antt.
-- Assumes nothing.
use borrow.Author.Tests.{not-true, not-false}
use Rattle.pairs.proofs.Pairs.{not-joined, joined}
use Rattle.pairs.proofs.pass_pair.Goals as goal

pub returns-then-not-same_at : goal.returns-then-not-same_at
returns-then-not-same_at c =
    let pre = c.requires in
    not-joined _ c.count_terms-n.ensures.formed _ _ pre.i_bound.0 pre.i_bound.1 _ c.same_at.ensures (not-true _ c.if-not-same_at.true-raw)

pub returns : goal.returns
returns c =
    let pre = c.requires in
    joined _ c.count_terms-n.ensures.formed _ _ pre.i_bound.0 pre.i_bound.1 _ (c.same_at.ensures.yes (not-false _ c.if-not-same_at.false-raw))
    c.count_terms-n.ensures.count.0 c.tie_new.ensures
