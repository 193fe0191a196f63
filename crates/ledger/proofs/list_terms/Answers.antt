-- `ledger::list_terms` meets its contract: the bounds of the terms before the counter are listed (proofs/Goes.antt).
-- Assumes nothing.
use Rattle.std.proofs.Common.{◌≡◌, arith}
use Rattle.order.specs.First.{every}
use Rattle.ledger.proofs.Goes.{term-more}
use Rattle.ledger.proofs.list_terms.Goals as goal

pub list_term-m-requires : goal.list_term-m-requires
list_term-m-requires c =
    let few = (c.loop-i.invariant every).few in
    let wf = c.count_terms-t.ensures.formed in
    (omega arith, omega arith)

pub loop-i-preserved : goal.loop-i-preserved
loop-i-preserved c =
    λ S.
    term-more (c.loop-i.invariant S) (omega arith) (omega arith) c.count_terms-t.ensures.formed (omega arith) c.count_terms-t.ensures.count.0
    c.term_at.ensures c.list_term-m.ensures

pub returns : goal.returns
returns c =
    let end : c.loop-i.i ≡ c.count_terms-t.result = omega arith in
    λ S. rw (end, c.count_terms-t.ensures.count.0) at (c.loop-i.invariant S)
