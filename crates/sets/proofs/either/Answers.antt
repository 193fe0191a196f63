-- `sets::either` meets its contract: a bit of the words joined by `or` is a bit of one or the other.
-- Assumes nothing.
use mathlib.Core.Path.{refl}
use mathlib.Core.Bool.{◌||◌}
use Rattle.sets.proofs.Bits.{or-bit, has-each}
use Rattle.sets.proofs.either.Goals as goal

pub returns : goal.returns
returns c = has-each ◌||◌ refl _ _ _ (search or-bit) (search or-bit)
