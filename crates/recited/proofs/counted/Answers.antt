-- `recited::counted` meets its contract: step by step (proofs/Reading.antt).
-- Assumes nothing.
use native.Mathlib.Omega.{arith}
use Rattle.recited.proofs.Reading.{counts, one-read}
use Rattle.recited.proofs.counted.Goals as goal

pub returns-then-at-bytes : goal.returns-then-at-bytes
returns-then-at-bytes c = counts c.loop-n.invariant (λ h. omega arith)

pub loop-n-preserved : goal.loop-n-preserved
loop-n-preserved c = one-read c.loop-n.invariant (omega arith) (omega arith) c.end-at.ensures
