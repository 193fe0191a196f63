-- `sets::without` meets its contract: what both words have is taken from the first.
-- Assumes nothing.
use mathlib.Core.Path.{refl}
use mathlib.Core.Bool.{Bool, not, ◌&&◌}
use Rattle.sets.proofs.Bits.{without-bit, has-each}
use Rattle.sets.proofs.without.Goals as goal

pub returns : goal.returns
returns c = has-each (λ (p q : Bool). p && not q) refl _ _ _ (search without-bit) (search without-bit)
