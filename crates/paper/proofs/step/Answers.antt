-- `paper::step` meets its contract.
-- Assumes nothing.
use native.Mathlib.Omega.{arith}
use Rattle.paper.proofs.Heads.{step-head}
use Rattle.paper.proofs.step.Goals as goal

pub returns : goal.returns
returns c =
    let wrote = c.write in
    step-head _ _ _ _ _ _ _ _ _ (omega arith) (λ k. (c.slice_known-2-1.given k).fits) c.ranges.c.fits wrote.auto.out wrote.ensures
