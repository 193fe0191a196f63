-- `recited::first_steps` meets its contract: the steps that are read are kept (proofs/Reading.antt).
-- Assumes nothing.
use native.Mathlib.Omega.{arith}
use lib.ListN.{length-replicate}
use Rattle.recited.proofs.Reading.{none_read, firsts, one-read, one_kept}
use Rattle.recited.proofs.first_steps.Goals as goal

pub loop-n-init : goal.loop-n-init
loop-n-init g c = (none_read _ _, record { size = length-replicate _ _; each = λ records R k l. absurd (omega arith) })

pub loop-n-preserved : goal.loop-n-preserved
loop-n-preserved g c =
    let (R, K) = c.loop-n.invariant in
    let E = c.end-at.ensures in
    (one-read R (omega arith) (omega arith) E, one_kept R (omega arith) (omega arith) E c.step_from.ensures K)

pub returns-then-at-bytes : goal.returns-then-at-bytes
returns-then-at-bytes g c = firsts c.loop-n.invariant.0 (λ h. omega arith) c.loop-n.invariant.1

pub returns-after-loop-n : goal.returns-after-loop-n
returns-after-loop-n g c = firsts c.loop-n.invariant.0 (λ h. omega arith) c.loop-n.invariant.1
