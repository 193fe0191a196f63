-- The order of the whole numbers: its laws, and that it is the one that is meant.
-- Assumes nothing.
use Prim.Native.Nat.{ℕ, ◌+◌, ◌-◌, ◌≤◌, ◌<◌}
use mathlib.Core.Path.{◌≡◌, refl}
use mathlib.Core.Bool.{Bool, true, false}
use mathlib.Core.Logic.{◌⊎◌, inl, inr, ⊎_elim, ◌↔◌}
use lib.IntN.{ℤ, pos, ◌+ℤ◌}
use lib.Dec.{ltb}
use native.Mathlib.Omega.{arith}
use borrow.Author.Tests.{ltb-true, ltb-false}
use Rattle.whole.specs.Whole.{plus, minus, ◌≼◌, ◌≺◌}
use Rattle.whole.proofs.Parts.{add_parts, parts-inj}

-- of two natural numbers, the first is at most the second or above it
pub order : (g h : ℕ) → (g ≤ h) ⊎ (h < g)
order g h = go (ltb h g) refl
  where
    go : (t : Bool) → ltb h g ≡ t → (g ≤ h) ⊎ (h < g)
    go true e = inr (ltb-true h g e)
    go false e = inl (ltb-false h g e)

-- two of which neither is below the other are one
pub neither-below : {g h : ℕ} → (g < h → ⊥) → (h < g → ⊥) → g ≡ h
neither-below {g} {h} p q = ⊎_elim (λ k. ⊎_elim (λ l. omega arith) (λ l. absurd (p l)) (order h g)) (λ l. absurd (q l)) (order g h)

pub ≼_refl : (x : ℤ) → x ≼ x
≼_refl x = omega arith

pub ≼-trans : (x y z : ℤ) → x ≼ y → y ≼ z → x ≼ z
≼-trans x y z p q = omega arith

pub ≼-antisym : (x y : ℤ) → x ≼ y → y ≼ x → x ≡ y
≼-antisym x y p q = parts-inj x y (omega arith)

pub ≼-total : (x y : ℤ) → (x ≼ y) ⊎ (y ≺ x)
≼-total x y = ⊎_elim (λ p. inl p) (λ p. inr p) (order (plus x + minus y) (plus y + minus x))

-- both sides moved by the same
pub ≼-move : (x y z : ℤ) → x ≼ y ↔ x +ℤ z ≼ y +ℤ z
≼-move x y z = (λ p. omega (arith, add_parts x z, add_parts y z), λ p. omega (arith, add_parts x z, add_parts y z))

-- y is x and a natural number more: what at most says
pub ≼-more : (x : ℤ) (k : ℕ) → x ≼ x +ℤ pos k
≼-more x k = omega (arith, add_parts x (pos k))

pub ≼-less : (x y : ℤ) → x ≼ y → (k : ℕ) × (y ≡ x +ℤ pos k)
≼-less x y p =
    let k : ℕ = plus y + minus x - (plus x + minus y) in
    (k, parts-inj y (x +ℤ pos k) (omega (arith, add_parts x (pos k))))
