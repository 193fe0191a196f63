-- Eight bytes as a whole number, and whether that is within 2 ^ 31 either way.
-- Assumes nothing.
use Prim.Native.Nat.{ℕ, ◌-◌, ◌*◌, ◌^◌, ◌≤◌, ◌<◌}
use mathlib.Core.Path.{◌≡◌, refl}
use mathlib.Core.Logic.{◌⊎◌, inl, inr, ⊎_elim}
use mathlib.Core.Bool.{◌||◌}
use native.Mathlib.Omega.{arith}
use lib.Dec.{leb, ltb}
use lib.IntN.{ℤ}
use borrow.Author.Tests.{lt-ltb, le-ltb}
use Rattle.whole.specs.Whole.{plus, minus}
use Rattle.whole.proofs.Order.{order}
use Rattle.big.specs.Big.{signed_of}
use Rattle.big.proofs.Signed.{signed_low, signed_high}
use Rattle.meaning.specs.Decides.{Decides}
use Rattle.meaning.proofs.Decides.{told}
use Rattle.reasons.specs.Rules.{TieWithin}
use Rattle.probes.proofs.Tests.{at-most, below, either}

-- from half on, less 2 ^ 64
pub data Signed (c : ℕ) (z : ℤ) : Type 0 where
  low : 2 * c < 2 ^ 64 → plus z ≡ c → minus z ≡ 0 → Signed c z
  high : 2 ^ 64 ≤ 2 * c → plus z ≡ 0 → minus z ≡ 2 ^ 64 - c → Signed c z

pub signed : (c : ℕ) → c < 2 ^ 64 → Signed c (signed_of 8 c)
signed c l = ⊎_elim at-half below_half (order (2 ^ 64) (2 * c))
  where
    below_half : 2 * c < 2 ^ 64 → Signed c (signed_of 8 c)
    below_half h = rw (signed_low 8 c h, le-ltb c 0 (omega arith)) (low h (omega arith) refl)

    at-half : 2 ^ 64 ≤ 2 * c → Signed c (signed_of 8 c)
    at-half h = rw (signed_high 8 c h, lt-ltb c (2 ^ 64) l) (high h refl (omega arith))

module _ {c : ℕ} {z : ℤ} where
  within-sure : Signed c z → (c ≤ 2147483648) ⊎ (18446744071562067967 < c) → c < 2 ^ 64 → TieWithin z
  within-sure (low h p m) (inl k) l = (omega arith, omega arith)
  within-sure (low h p m) (inr k) l = absurd (omega arith)
  within-sure (high h p m) (inl k) l = absurd (omega arith)
  within-sure (high h p m) (inr k) l = (omega arith, omega arith)

  within-near : Signed c z → TieWithin z → (c ≤ 2147483648) ⊎ (18446744071562067967 < c)
  within-near (low h p m) (a, b) = inl (omega arith)
  within-near (high h p m) (a, b) = inr (omega arith)

pub within-told : (c : ℕ) → c < 2 ^ 64 → Decides (TieWithin (signed_of 8 c)) (leb c 2147483648 || ltb 18446744071562067967 c)
within-told c l =
    let S = signed c l in
    told (λ h. within-sure S h l) (within-near S) (either (at-most c 2147483648) (below 18446744071562067967 c))
