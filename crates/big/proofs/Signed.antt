-- Two's complement at any width: its two halves, moved by half, and one to one.
-- Assumes nothing.
use Prim.Native.Nat.{ℕ, ◌+◌, ◌*◌, ◌-◌, ◌^◌, ◌≤◌, ◌<◌}
use mathlib.Core.Path.{◌≡◌, sym, ◌∙◌, ap}
use mathlib.Core.Logic.{◌⊎◌, inl, inr}
use lib.IntN.{sub_ℕ}
use native.Mathlib.Omega.{arith}
use borrow.Author.Tests.{lt-ltb, le-ltb}
use Rattle.whole.specs.Whole.{plus, minus}
use Rattle.whole.proofs.Order.{order}
use Rattle.whole.proofs.Parts.{sub_parts, parts-inj}
use Rattle.big.specs.Big.{signed_of}

-- two differences are the same where, crosswise, they add up the same
cross : (a b c d : ℕ) → a + d ≡ c + b → sub_ℕ a b ≡ sub_ℕ c d
cross a b c d e = parts-inj _ _ (omega (arith, sub_parts a b, sub_parts c d))

uncross : (a b c d : ℕ) → sub_ℕ a b ≡ sub_ℕ c d → a + d ≡ c + b
uncross a b c d e = omega (arith, sub_parts a b, sub_parts c d, ap plus e, ap minus e)

pub signed_low : (w v : ℕ) → 2 * v < 256 ^ w → signed_of w v ≡ sub_ℕ v 0
unfolding signed_of
signed_low w v l = rw (lt-ltb (2 * v) (256 ^ w) l)

pub signed_high : (w v : ℕ) → 256 ^ w ≤ 2 * v → signed_of w v ≡ sub_ℕ v (256 ^ w)
unfolding signed_of
signed_high w v l = rw (le-ltb (2 * v) (256 ^ w) l)

-- for code without signed numbers: `if v < h { v + h } else { v - h }` is v's two's complement, moved up by h
pub signed-biased-low : (w h v : ℕ) → 2 * h ≡ 256 ^ w → v < h → sub_ℕ (v + h) h ≡ signed_of w v
signed-biased-low w h v e l = cross (v + h) h v 0 (omega arith) ∙ sym (signed_low w v (omega arith))

pub signed-biased-high : (w h v : ℕ) → 2 * h ≡ 256 ^ w → h ≤ v → sub_ℕ (v - h) h ≡ signed_of w v
signed-biased-high w h v e l = cross (v - h) h v (256 ^ w) (omega arith) ∙ sym (signed_high w v (omega arith))

pub signed-inj : (w u v : ℕ) → u < 256 ^ w → v < 256 ^ w → signed_of w u ≡ signed_of w v → u ≡ v
signed-inj w u v a b e = go (order (256 ^ w) (2 * u)) (order (256 ^ w) (2 * v))
  where
    meet : (x y : ℕ) → signed_of w u ≡ sub_ℕ u x → signed_of w v ≡ sub_ℕ v y → u + y ≡ v + x
    meet x y p q = uncross u x v y (sym p ∙ e ∙ q)

    go : (256 ^ w ≤ 2 * u) ⊎ (2 * u < 256 ^ w) → (256 ^ w ≤ 2 * v) ⊎ (2 * v < 256 ^ w) → u ≡ v
    go (inl p) (inl q) = omega (arith, meet (256 ^ w) (256 ^ w) (signed_high w u p) (signed_high w v q))
    go (inl p) (inr q) = omega (arith, meet (256 ^ w) 0 (signed_high w u p) (signed_low w v q))
    go (inr p) (inl q) = omega (arith, meet 0 (256 ^ w) (signed_low w u p) (signed_high w v q))
    go (inr p) (inr q) = omega (arith, meet 0 0 (signed_low w u p) (signed_low w v q))
