-- Meets, flat: one inequality of natural numbers.
-- Assumes nothing.
use Prim.Native.Nat.{ℕ, zero, suc, ◌+◌, ◌*◌, ◌/◌, ◌%◌, ◌≤◌, ◌<◌}
use mathlib.Core.Path.{◌≡◌, refl}
use mathlib.Core.Logic.{◌⊎◌, inl, inr, ⊎_elim}
use lib.IntN.{ℤ}
use native.Mathlib.Omega.{arith}
use Rattle.whole.specs.Whole.{plus, minus}
use Rattle.whole.proofs.Parts.{scaled}
use Rattle.kind.specs.Code.{none, half}
use Rattle.kind.specs.Meets.{Meets}

pub record Flat (D g : ℕ) (x y : ℤ) : Type 0 where
  pub line : plus x + minus y + g % 2 + half * D ≤ plus y + minus x + (g + 1) / 2 * D

pub parity : (g : ℕ) → (g % 2 ≡ 0) ⊎ (g % 2 ≡ 1)
parity g = go (g % 2) (omega arith) refl
  where
    go : (k : ℕ) → k < 2 → g % 2 ≡ k → (g % 2 ≡ 0) ⊎ (g % 2 ≡ 1)
    go zero h e = inl e
    go (suc zero) h e = inr e
    go (suc (suc k)) h e = absurd (omega arith)

pub flat : {D g : ℕ} {x y : ℤ} → Meets D g x y → g < none → Flat D g x y
flat {D} {g} {x} {y} m f =
    ⊎_elim (λ e. omega (arith, m.weak f e, scaled ((g + 1) / 2) half D y))
    (λ e. omega (arith, m.strict f e, scaled ((g + 1) / 2) half D y))
    (parity g)

pub meets : {D g : ℕ} {x y : ℤ} → (g < none → Flat D g x y) → Meets D g x y
meets {D} {g} {x} {y} k =
    record {
      weak = λ f e. omega (arith, k f, scaled ((g + 1) / 2) half D y);
      strict = λ f e. omega (arith, k f, scaled ((g + 1) / 2) half D y);
    }
