-- `sets::only` meets its contract: one word is a power of two, and the other is zero.
-- Assumes nothing.
use native.Mathlib.Omega.{arith}
use Rattle.sets.proofs.Bits.{only-low, only_high}
use Rattle.sets.proofs.only.Goals as goal

pub returns-then-t-lt64 : goal.returns-then-t-lt64
returns-then-t-lt64 c = only-low (omega arith)

pub returns-else-t-lt64 : goal.returns-else-t-lt64
returns-else-t-lt64 c = only_high (omega arith) (omega arith)
