-- `legs::walk` meets its contract: what is said of the rest of the row, from where the walk has come to, is said of all of it (proofs/Walks.antt).
-- Assumes nothing.
use native.Mathlib.Omega.{arith}
use Rattle.legs.proofs.Walks.{further-gap, ahead-all, ahead-wrong, ahead-lost, ahead_more}
use Rattle.legs.proofs.walk.Goals as goal

pub returns-then-name-ge1536 : goal.returns-then-name-ge1536
returns-then-name-ge1536 c = ahead-wrong c.loop-name.invariant.1 c.loop-name-test.true c.if-name-ge1536.true

pub returns-in_err-stand : goal.returns-in_err-stand
returns-in_err-stand c = rw c.from_residual.ensures (ahead-lost c.loop-name.invariant.1 c.loop-name-test.true c.in_err-stand.ensures)

pub loop-name-preserved : goal.loop-name-preserved
loop-name-preserved c =
    let gone = c.in_ok-stand.ensures in
    (further-gap gone, ahead_more c.loop-name.invariant.1 c.loop-name-test.true (omega arith) gone)

pub returns : goal.returns
returns c = ahead-all c.loop-name.invariant.1 (omega arith)
