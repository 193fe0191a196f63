-- What a bound that a table holds says of levels that meet the table: over any D, as an entry compares them.
-- Assumes nothing.
use Prim.Native.Nat.{ℕ, ◌+◌, ◌*◌, ◌/◌, ◌≤◌, ◌<◌}
use mathlib.Core.Path.{◌≡◌}
use mathlib.Core.Logic.{⊎_elim}
use lib.IntN.{ℤ, pos, ◌+ℤ◌, ◌*ℤ◌}
use native.Mathlib.Nat.{mul-le-mul_right}
use native.Mathlib.Omega.{arith}
use Rattle.whole.specs.Whole.{plus, minus, ◌≼◌, ◌≺◌}
use Rattle.whole.proofs.Parts.{moved, parts-inj}
use Rattle.kind.specs.Code.{half}
use Rattle.kind.specs.Meets.{Meets}
use Rattle.kind.proofs.Flat.{parity, flat}
use Rattle.closure.specs.Closed.{AtMost, Below, TiedAt}

module _ {D : ℕ} {d : ℕ → ℕ → ℕ} {i j : ℕ} {x y : ℤ} where
  bound-met : {up down : ℕ} → AtMost d i j up down → Meets D (d i j) x y → plus x + minus y + down * D ≤ plus y + minus x + up * D
  bound-met {up} {down} h m =
      let l : (d i j + 1) / 2 + down ≤ half + up = omega (arith, h.bound) in
      omega (arith, flat m h.there, mul-le-mul_right D l)

  pub at-most-met : (c : ℤ) → AtMost d i j (plus c) (minus c) → Meets D (d i j) x y → x ≼ y +ℤ c *ℤ pos D
  at-most-met c h m = omega (arith, bound-met h m, moved y c D)

  -- a strict bound leaves room in D or in the gap itself
  pub below-met : (c : ℤ) → 0 < D → Below d i j (plus c) (minus c) → Meets D (d i j) x y → x ≺ y +ℤ c *ℤ pos D
  below-met c p h m =
      ⊎_elim
      (λ e.
      let l : (d i j + 1) / 2 + minus c + 1 ≤ half + plus c = omega (arith, h.bound) in
      omega (arith, flat m h.there, mul-le-mul_right D l, moved y c D))
      (λ e.
      let l : (d i j + 1) / 2 + minus c ≤ half + plus c = omega (arith, h.bound) in
      omega (arith, flat m h.there, mul-le-mul_right D l, moved y c D))
      (parity (d i j))

pub tied-met : {D : ℕ} {d : ℕ → ℕ → ℕ} {i j : ℕ} {x y : ℤ} (c : ℤ) →
    TiedAt d i j c → Meets D (d i j) x y → Meets D (d j i) y x → x ≡ y +ℤ c *ℤ pos D
tied-met {D} {y} c h m n = parts-inj _ _ (omega (arith, bound-met h.to m, bound-met h.back n, moved y c D))
