-- A climb on its way: what comes above the point that it has come to, with what it has gathered, is what comes above the point that it
-- began at.
-- Assumes nothing.
use Prim.Native.Nat.{ℕ, ◌<◌}
use mathlib.Core.Path.{◌≡◌, refl, sym, ap, subst, ◌∙◌}
use mathlib.Core.Bool.{Bool, false, xor}
use mathlib.Core.List.{List}
use lib.ListN.{get_or}
use native.Mathlib.Omega.{arith}
use Rattle.sets.specs.declared.Ties.{Ties}
use Rattle.sets.specs.Sets.{has, stored}
use Rattle.links.specs.Links.{root, by_of, up_of, by, up}
use Rattle.routes.specs.Routes.{Upwards, topmost, further}
use Rattle.routes.proofs.Xor.{xor-false-l, xor-false-r, xor_assoc}

pub record Climbing (links paths : List ℕ) (i : ℕ) (odd : Ties) (link : ℕ) : Type 0 where
  pub point : ℕ
  pub place : point < 256
  pub link-is : link ≡ get_or links point 0
  pub on : (u : ℕ) (more : Bool) → Upwards links paths u point more → Upwards links paths u i (xor (has odd u) more)

module _ {links paths : List ℕ} {i : ℕ} where
  pub climbs-begin : {odd : Ties} → i < 256 → ((u : ℕ) → has odd u ≡ false) → Climbing links paths i odd (get_or links i 0)
  climbs-begin h none =
      record {
        point = i;
        place = h;
        link-is = refl;
        on = λ u more U. subst (Upwards links paths u i) (sym (ap (λ (b : Bool). xor b more) (none u) ∙ xor-false-l more)) U;
      }

  module _ {odd : Ties} {link : ℕ} (C : Climbing links paths i odd link) where
    by-is : by_of link ≡ by links C.point
    by-is = ap by_of C.link-is

    module _ {u : ℕ} (h : by_of link < root) (r : u ≡ up_of link) where
      up_is : u ≡ up links C.point
      up_is = r ∙ ap up_of C.link-is

      pub climbs-on : {path new : Ties} {b : ℕ} → b ≡ by_of link → path ≡ stored paths b → ((t : ℕ) → has new t ≡ xor (has odd t) (has path t)) →
          Climbing links paths i new (get_or links u 0)
      climbs-on {path} {new} p q x =
          record {
            point = u;
            place = omega arith;
            link-is = refl;
            on = on;
          }
        where
          path-is : path ≡ stored paths (by links C.point)
          path-is = q ∙ ap (stored paths) (p ∙ by-is)

          on : (t : ℕ) (more : Bool) → Upwards links paths t u more → Upwards links paths t i (xor (has new t) more)
          on t more U =
              let e = ap (λ (s : Ties). xor (has odd t) (xor (has s t) more)) (sym path-is) in
              let f = ap (λ (b : Bool). xor b more) (x t) ∙ xor_assoc (has odd t) (has path t) more in
              subst (Upwards links paths t i) (e ∙ sym f)
              (C.on t _ (further (omega (arith, by-is)) (subst (λ (k : ℕ). Upwards links paths t k more) up_is U)))

    pub climbs-end : by_of link ≡ root → (u : ℕ) → Upwards links paths u i (has odd u)
    climbs-end h u = subst (Upwards links paths u i) (xor-false-r (has odd u)) (C.on u false (topmost (omega (arith, by-is))))
