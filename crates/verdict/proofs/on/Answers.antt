-- `verdict::on` meets its contract: the parts together (proofs/Final.antt).
-- Assumes nothing.
use borrow.Author.Tests.{not-true, not-false}
use Rattle.order.specs.First.{marked}
use Rattle.sheet.specs.Decode.{sheet_of}
use Rattle.verdict.proofs.Final.{with-terms, with-entered, refused, told}
use Rattle.verdict.proofs.on.Goals as goal

pub returns-then-not-put_terms-clause-judged : goal.returns-then-not-put_terms-clause-judged
returns-then-not-put_terms-clause-judged c =
    let wf = c.count_terms.ensures.formed in
    (refused c.args.sheet.now (marked c.args.set.now) wf c.count_terms.ensures.count.0 c.start.ensures (with-terms _ _ wf c.put_terms.ensures)
    (not-true _ c.if-not-put_terms.true-raw)).0

pub returns-then-finish-clause-judged : goal.returns-then-finish-clause-judged
returns-then-finish-clause-judged c =
    let wf = c.count_terms.ensures.formed in
    let A = with-terms _ _ wf c.put_terms.ensures in
    let B = with-entered _ _ wf (not-false _ c.if-not-put_terms.false-raw) A c.finish.ensures in
    rw c.if-finish.true at (told _ _ wf c.count_terms.ensures.count.0 c.start.ensures B).0

pub returns-else-finish-clause-judged : goal.returns-else-finish-clause-judged
returns-else-finish-clause-judged c =
    let wf = c.count_terms.ensures.formed in
    let A = with-terms _ _ wf c.put_terms.ensures in
    let B = with-entered _ _ wf (not-false _ c.if-not-put_terms.false-raw) A c.finish.ensures in
    rw c.if-finish.false at (told _ _ wf c.count_terms.ensures.count.0 c.start.ensures B).0
