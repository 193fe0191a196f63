-- `reading::fields_at` meets its contract: five reads, of which `big::read` makes the last.
-- Assumes nothing.
use native.Mathlib.Omega.{arith}
use Rattle.sheet.specs.Decode.{fields_at}
use Rattle.reading.proofs.fields_at.Goals as goal

pub overflow_cast-result : goal.overflow_cast-result
overflow_cast-result c = omega (arith, c.read.ensures)

pub returns : goal.returns
unfolding fields_at
returns c = rw c.read.ensures.0
