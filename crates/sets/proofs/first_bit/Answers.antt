-- `sets::first_bit` meets its contract: the zeros of what is left of the word end there.
-- Assumes nothing.
use native.Mathlib.Omega.{arith}
use Rattle.sets.proofs.Firsts.{bit-none, bit-some}
use Rattle.sets.proofs.first_bit.Goals as goal

pub returns-then-rest-eq0 : goal.returns-then-rest-eq0
returns-then-rest-eq0 c = bit-none c.args.word c.args.from (omega arith)

pub returns-else-rest-eq0 : goal.returns-else-rest-eq0
returns-else-rest-eq0 c = bit-some c.args.from (omega arith) (omega arith)
