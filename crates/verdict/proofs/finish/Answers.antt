-- `verdict::finish` meets its contract: the entries, and then the rest (proofs/Rest.antt).
-- Assumes nothing.
use borrow.Author.Tests.{not-false}
use Rattle.verdict.proofs.Rest.{passed, entered}
use Rattle.verdict.proofs.finish.Goals as goal

pub returns-then-settle : goal.returns-then-settle
returns-then-settle c =
    let wf = c.formed.ensures in
    entered _ _ wf c.put_entries.ensures (not-false _ c.if-not-put_entries.false-raw)
    (passed _ _ wf c.settle.ensures c.if-settle.true c.apart.ensures)
