-- `passes::settle` meets its contract: what a pass came to, after those before it (proofs/Settles.antt).
-- Assumes nothing.
use Rattle.passes.proofs.Settles.{goes_on, clashes, ended}
use Rattle.passes.proofs.settle.Goals as goal

pub loop-preserved : goal.loop-preserved
loop-preserved c = goes_on _ c.loop.invariant (rw c.in-Ok-true.field-0-test at c.in-Ok-true.ensures)

pub returns-in-Ok-false : goal.returns-in-Ok-false
returns-in-Ok-false c = ended _ c.loop.invariant (rw c.in-Ok-false.field-0-test at c.in-Ok-false.ensures)

pub returns-in-Err : goal.returns-in-Err
returns-in-Err c = clashes _ c.loop.invariant c.in-Err.ensures
