-- `sets::difference` meets its contract: a bit of the words joined by `xor` is a bit of one alone.
-- Assumes nothing.
use mathlib.Core.Path.{refl}
use mathlib.Core.Bool.{xor}
use Rattle.sets.proofs.Bits.{xor-bit, has-each}
use Rattle.sets.proofs.difference.Goals as goal

pub returns : goal.returns
unfolding xor
returns c = has-each xor refl _ _ _ (search xor-bit) (search xor-bit)
