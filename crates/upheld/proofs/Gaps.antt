-- Gaps as whole numbers: a tie's c the other way round; a gap tells its number; and a stand is under zero where its total is.
-- Assumes nothing.
use Prim.Native.Nat.{ℕ, ◌+◌, ◌-◌, ◌/◌, ◌%◌, ◌^◌, ◌≤◌, ◌<◌}
use mathlib.Core.Path.{◌≡◌, refl, sym, ◌∙◌, ap, subst}
use mathlib.Core.Logic.{◌⊎◌, inl, inr}
use mathlib.Core.Bool.{Bool, true, false, false≢true}
use native.Mathlib.Omega.{arith}
use lib.IntN.{ℤ, pos, negsuc, neg_ℤ, +ℤ_idl}
use Rattle.whole.specs.Whole.{plus, minus}
use Rattle.big.specs.Big.{signed_of, complement_of}
use Rattle.big.proofs.Bytes.{signed-complement}
use Rattle.kind.specs.Kind.{Kind}
use Rattle.reasons.specs.Rules.{TieWithin, Under}
use Rattle.legs.specs.Legs.{range, gap_for}
use Rattle.legs.specs.declared.Stand.{Stand}
use Rattle.strides.specs.Trodden.{kind_for, Comes}
use Rattle.strides.proofs.Gaps.{gap_back, tie-gap}
use Rattle.probes.specs.Probes.{UnderAt}

pub tie-back : (c : ℕ) → TieWithin (signed_of 8 c) → (range - c % range) % range ≡ gap_for (neg_ℤ (signed_of 8 c))
unfolding complement_of
tie-back c w =
    let z = signed_of 8 c in
    let e : range - c % range ≡ gap_for (pos 0) + (range - gap_for z) = omega (arith, tie-gap c w) in
    ap (λ (g : ℕ). g % range) e ∙ gap_back (pos 0) z (omega arith) (omega arith) ∙ ap gap_for (+ℤ_idl (neg_ℤ z))

pub gap-one : (y z : ℤ) → plus y < 2 ^ 39 → minus y < 2 ^ 39 → plus z < 2 ^ 39 → minus z < 2 ^ 39 → gap_for y ≡ gap_for z → y ≡ z
gap-one y z a b c d e =
    sym (signed-complement 5 y (omega arith) (omega arith)) ∙ ap (signed_of 5) e ∙ signed-complement 5 z (omega arith) (omega arith)

-- what lies below zero, or is zero and strict, by its gap
abbrev Low : ℕ → Bool → Type 0
Low g b = (range / 2 ≤ g) ⊎ ((g ≡ 0) × (b ≡ true))

low-under : (b : Bool) (z : ℤ) → plus z < 2 ^ 39 → minus z < 2 ^ 39 → Low (gap_for z) b → Under (kind_for b z)
unfolding complement_of
low-under true (pos n) up down (inl h) = absurd (omega arith)
low-under true (pos n) up down (inr (h, e)) = omega arith
low-under true (negsuc n) up down h = omega arith
low-under false (pos n) up down (inl h) = absurd (omega arith)
low-under false (pos n) up down (inr (h, e)) = absurd (false≢true e)
low-under false (negsuc n) up down h = omega arith

under_low : (b : Bool) (z : ℤ) → minus z < 2 ^ 39 → Under (kind_for b z) → Low (gap_for z) b
unfolding complement_of
under_low true (pos n) down h = inr (omega arith, refl)
under_low true (negsuc n) down h = inl (omega arith)
under_low false (pos n) down h = absurd (omega arith)
under_low false (negsuc n) down h = inl (omega arith)

pub stands-under : {e : Stand} {total : Kind} → Comes e total → UnderAt e → Under total
stands-under {e} C u =
    rw C.total-is (low-under e.strict C.sum C.up C.down (subst (λ (g : ℕ). Low g e.strict) C.gap_is u))

pub under-stands : {e : Stand} {total : Kind} → Comes e total → Under total → UnderAt e
under-stands {e} C u =
    subst (λ (g : ℕ). Low g e.strict) (sym C.gap_is) (under_low e.strict C.sum C.down (rw C.total-is at u))
