-- `matched::first` meets its contract: no term before the counter has a partner.
-- Assumes nothing.
use native.Mathlib.Omega.{arith}
use Rattle.matched.proofs.Left.{first-none}
use Rattle.matched.proofs.first.Goals as goal

pub returns : goal.returns
returns c = first-none c.requires.d_len.1 (λ i i<. c.loop-i.invariant i (omega arith))
