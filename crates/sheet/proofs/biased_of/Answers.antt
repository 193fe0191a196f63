-- `sheet::biased_of` meets its contract: the law of two's complement (big, Signed) at two bytes.
-- Assumes nothing.
use mathlib.Core.Path.{refl}
use Rattle.big.proofs.Signed.{signed-biased-low, signed-biased-high}
use Rattle.sheet.proofs.biased_of.Goals as goal

pub returns-then-c-lt32768 : goal.returns-then-c-lt32768
returns-then-c-lt32768 c = signed-biased-low 2 32768 c.args.c refl c.if-c-lt32768.true

pub returns-else-c-lt32768 : goal.returns-else-c-lt32768
returns-else-c-lt32768 c = signed-biased-high 2 32768 c.args.c refl c.if-c-lt32768.false
