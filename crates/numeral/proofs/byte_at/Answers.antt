-- `numeral::byte_at` meets its contract: behind the text the default is read.
-- Assumes nothing.
use mathlib.Core.Path.{sym}
use lib.ListN.{get_or-eq_default}
use native.Mathlib.Omega.{arith}
use Rattle.numeral.proofs.byte_at.Goals as goal

pub returns-else-i-s : goal.returns-else-i-s
returns-else-i-s c = let args = c.args in sym (get_or-eq_default args.s.now 0 {n = args.i} (omega arith))
