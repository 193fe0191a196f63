-- `numeral::number_at` meets its contract: it goes on from a number as the model does.
-- Assumes nothing.
use Prim.Native.Nat.{◌-◌}
use lib.ListN.{length}
use Rattle.numeral.proofs.Going.{Going}
use Rattle.numeral.proofs.number_at.Given as goal

abbrev pub invariant-loop-d : goal.invariant-loop-d
invariant-loop-d l = Going l.s l.i l.least l.limit l.n l.e

abbrev pub decreases-loop-d : goal.decreases-loop-d
decreases-loop-d l = length l.s - l.e
