-- The laws of gaps over models.
-- Assumes nothing.
use Prim.Native.Nat.{ℕ, zero, ◌+◌, ◌*◌, ◌-◌, ◌/◌, ◌%◌, ◌≤◌, ◌<◌}
use mathlib.Core.Path.{◌≡◌, ap}
use mathlib.Core.Logic.{⊎_elim, ◌↔◌}
use lib.IntN.{ℤ, pos, sub_ℕ, ◌+ℤ◌, ◌*ℤ◌}
use native.Mathlib.Nat.{mul-le-mul_right, eq-or-lt_of_le, min-eq_left, min-eq_right}
use native.Mathlib.Omega.{arith}
use Rattle.whole.proofs.Parts.{parts-inj, scaled, sub_parts}
use Rattle.whole.proofs.Order.{order}
use Rattle.kind.specs.Code.{none, half, base, sum_of, tighter_of}
use Rattle.kind.specs.Meets.{Meets, whole_of}
use Rattle.kind.proofs.Flat.{Flat, flat, meets}
use Rattle.kind.proofs.Codes.{sum-there, sum-halves, sum-mark, code_is}

pub meets-sum : {D g h : ℕ} {x y z : ℤ} → base ≤ g + h → Meets D g x y → Meets D h y z → Meets D (sum_of g h) x z
meets-sum {D} {g} {h} b m n =
    meets λ s.
    let (p, q) = sum-there g h s in
    omega (arith, flat m p, flat n q, sum-mark g h p q b, ap (λ (k : ℕ). k * D) (sum-halves g h p q b))

-- a looser gap is met where a tighter one is
pub meets-weaken : {D g h : ℕ} {x y : ℤ} → 0 < D → g ≤ h → Meets D g x y → Meets D h x y
meets-weaken {D} {g} {h} {x} {y} d l m =
    meets λ s.
    let f : Flat D g x y = flat m (omega arith) in
    ⊎_elim (λ e. omega (arith, ap (λ (n : ℕ). n * D) e))
    (λ k. omega (arith, mul-le-mul_right D k))
    (eq-or-lt_of_le {n = (g + 1) / 2} {m = (h + 1) / 2} (omega arith))

pub meets-tighter : (g h : ℕ) {D : ℕ} {x y : ℤ} → Meets D g x y → Meets D h x y → Meets D (tighter_of g h) x y
meets-tighter g h m n =
    ⊎_elim (λ l. rw (min-eq_left {n = g} {m = h} l) m) (λ l. rw (min-eq_right {n = h} {m = g} (omega arith)) n) (order g h)

pub meets-left : (g h : ℕ) {D : ℕ} {x y : ℤ} → 0 < D → Meets D (tighter_of g h) x y → Meets D g x y
meets-left g h d m = meets-weaken d (omega arith) m

pub meets-right : (g h : ℕ) {D : ℕ} {x y : ℤ} → 0 < D → Meets D (tighter_of g h) x y → Meets D h x y
meets-right g h d m = meets-weaken d (omega arith) m

-- what a table starts from
pub meets-zero : (D : ℕ) (x : ℤ) → Meets D base x x
meets-zero D x = meets λ s. omega arith

pub meets-none : (D : ℕ) (x y : ℤ) → Meets D none x y
meets-none D x y = meets λ s. absurd (omega arith)

-- nothing is under itself
pub under_none : {D g : ℕ} {x : ℤ} → 0 < D → g < base → Meets D g x x → ⊥
under_none d l m = omega (arith, flat (meets-weaken {h = base - 1} d (omega arith) m) (omega arith))

-- a gap and the same one back, neither strict, leave one value
pub meets-both : {D g h : ℕ} {x y : ℤ} → g < none → h < none → g % 2 ≡ 0 → g + h ≡ base + base → Meets D g x y → Meets D h y x → x ≡ y +ℤ whole_of g *ℤ pos D
meets-both {D} {g} {h} {x} {y} p q e k m n =
    let back : (g + 1) / 2 + (h + 1) / 2 ≡ half + half = omega arith in
    parts-inj _ _ (omega (arith, flat m p, flat n q, scaled ((g + 1) / 2) half D y, ap (λ (n : ℕ). n * D) back))

-- over halves, D = 2, a code is the distance itself: so the order of the codes is what the gaps say, and no gap is looser than it need be
pub meets-two : (g h : ℕ) → h < none → Meets 2 h (sub_ℕ g base) (pos zero) ↔ g ≤ h
meets-two g h p = (
  λ m. omega (arith, flat m p, sub_parts g base, code_is h),
  λ l. meets λ s. omega (arith, sub_parts g base, code_is h),
)
