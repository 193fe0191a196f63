-- `recited::bounds` meets its contract: bound by bound (proofs/Rows.antt).
-- Assumes nothing.
use native.Mathlib.Omega.{arith}
use Rattle.recited.proofs.Rows.{none_filled, all-filled}
use Rattle.recited.proofs.bounds.Goals as goal

pub loop-x-init : goal.loop-x-init
loop-x-init c = none_filled _ _ _

pub returns : goal.returns
returns c = let m = c.min-x-end.ensures in all-filled _ _ _ c.loop-x.invariant (λ h. omega arith)
