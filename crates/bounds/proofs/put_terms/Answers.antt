-- `bounds::put_terms` meets its contract: one more term is in the table (proofs/Parts.antt).
-- Assumes nothing.
use native.Mathlib.Omega.{arith}
use borrow.Author.Tests.{not-false}
use Rattle.bounds.proofs.Parts.{terms-more}
use Rattle.bounds.proofs.put_terms.Goals as goal

pub loop-i-preserved : goal.loop-i-preserved
loop-i-preserved c =
    let loop = c.loop-i in
    let S =
    terms-more _ _ c.count_terms-t.ensures.formed (omega arith) c.count_terms-t.ensures.count.0 c.term_at.ensures
    loop.invariant.0 loop.invariant.1 c.put_term.ensures
    in
    (S.kept, S.went (not-false _ c.if-not-put_term.false-raw))
