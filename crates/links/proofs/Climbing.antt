-- A climb is one for its point, and its gap is within the range. A climb on its way: what is above the point that it has come to is
-- above the point that it began at.
-- Assumes nothing.
use Prim.Native.Nat.{ℕ, ◌+◌, ◌%◌, ◌<◌}
use mathlib.Core.Path.{◌≡◌, refl, sym, ap, subst, ◌∙◌}
use mathlib.Core.List.{List}
use lib.ListN.{get_or}
use native.Mathlib.Omega.{arith}
use Rattle.legs.specs.Legs.{range}
use Rattle.links.specs.Links.{root, by_of, up_of, gap_of, by, gap, Climbs, stays, rises}

pub record Climbing (links : List ℕ) (i top sum link : ℕ) : Type 0 where
  pub place : top < 256
  pub link-is : link ≡ get_or links top 0
  pub small : sum < range
  pub on : (x g : ℕ) → Climbs links root top x g → Climbs links root i x ((sum + g) % range)

module _ {links : List ℕ} where
  pub gap-small : {t i x g : ℕ} → Climbs links t i x g → g < range
  gap-small (stays h) = omega arith
  gap-small (rises h C) = omega arith

  pub climbs-one : {t i x y g h : ℕ} → Climbs links t i x g → Climbs links t i y h → (x ≡ y) × (g ≡ h)
  climbs-one (stays p) (stays q) = (refl, refl)
  climbs-one (stays p) (rises q D) = absurd (omega arith)
  climbs-one (rises p C) (stays q) = absurd (omega arith)
  climbs-one {i = i} (rises p C) (rises q D) = let e = climbs-one C D in (e.0, ap (λ (k : ℕ). (gap links i + k) % range) e.1)

  pub climbs-begin : {i : ℕ} → i < 256 → Climbing links i i 0 (get_or links i 0)
  climbs-begin {i} h = record { place = h; link-is = refl; small = omega arith; on = on }
    where
      on : (x g : ℕ) → Climbs links root i x g → Climbs links root i x ((0 + g) % range)
      on x g C = let s = gap-small C in let e : g ≡ (0 + g) % range = omega arith in subst (λ (k : ℕ). Climbs links root i x k) e C

  module _ {i top sum link : ℕ} (C : Climbing links i top sum link) where
    by-is : by_of link ≡ by links top
    by-is = ap by_of C.link-is

    pub climbs-on : {g u : ℕ} → by_of link < root → g ≡ gap_of link → u ≡ up_of link → Climbing links i u ((sum + g) % range) (get_or links u 0)
    climbs-on {g} {u} h q r = record { place = omega arith; link-is = refl; small = omega arith; on = on }
      where
        regroup : (s a k : ℕ) → (s + (a + k) % range) % range ≡ ((s + a) % range + k) % range
        regroup s a k = omega arith

        gap_is : gap links top ≡ g
        gap_is = sym (q ∙ ap gap_of C.link-is)

        on : (x k : ℕ) → Climbs links root u x k → Climbs links root i x (((sum + g) % range + k) % range)
        on x k D =
            let D' = subst (λ (v : ℕ). Climbs links root v x k) (r ∙ ap up_of C.link-is) D in
            subst (λ (v : ℕ). Climbs links root i x v) (ap (λ (a : ℕ). (sum + (a + k) % range) % range) gap_is ∙ regroup sum g k)
            (C.on x _ (rises (omega (arith, by-is)) D'))

    pub climbs-end : by_of link ≡ root → Climbs links root i top sum
    climbs-end h =
        let s = C.small in
        let e : (sum + 0) % range ≡ sum = omega arith in
        subst (λ (k : ℕ). Climbs links root i top k) e (C.on top 0 (stays (omega (arith, by-is))))
