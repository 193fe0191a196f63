-- `bounds::put_entries` meets its contract: one more entry is in the table, where it is marked (proofs/Parts.antt).
-- Assumes nothing.
use native.Mathlib.Omega.{arith}
use borrow.Author.Tests.{not-false}
use Rattle.bounds.proofs.Parts.{entries-more}
use Rattle.bounds.proofs.put_entries.Goals as goal

pub loop-e-preserved : goal.loop-e-preserved
loop-e-preserved c =
    let loop = c.loop-e in
    let S = entries-more _ _ _ c.count_entries-e-end.ensures.formed (omega arith) loop.invariant.0 loop.invariant.1 c.put_marked.ensures in
    (S.kept, S.went (not-false _ c.if-not-put_marked.false-raw))
