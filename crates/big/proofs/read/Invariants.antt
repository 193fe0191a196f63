-- `big::read` meets its contract: v is the number of the k bytes read, and one byte more fits, as k < width ≤ 8.
-- Assumes nothing.
use Rattle.std.proofs.Common.{◌≡◌}
use Rattle.big.specs.Big.{big_of}
use Rattle.big.proofs.read.Given as goal

abbrev pub invariant-loop-k : goal.invariant-loop-k
invariant-loop-k l = l.v ≡ big_of l.b l.at l.k
