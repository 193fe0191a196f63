-- What a set has: all that one of two has, and the ties of a walk, name by name.
-- Assumes nothing.
use Prim.Native.Nat.{ℕ, ◌+◌, ◌%◌, ◌≤◌, ◌<◌}
use mathlib.Core.Path.{◌≡◌, refl, sym, ◌∙◌}
use mathlib.Core.Bool.{Bool, true, false, ◌||◌, false≢true}
use mathlib.Core.Logic.{◌⊎◌, inl, inr, ⊎_elim, ◌↔◌}
use mathlib.Core.List.{List}
use lib.Dec.{eqb}
use lib.ListN.{get_or}
use native.Mathlib.Omega.{arith}
use borrow.Author.Tests.{eqb-true, eq-eqb}
use Rattle.sets.specs.declared.Ties.{Ties}
use Rattle.sets.specs.Sets.{has}
use Rattle.basis.specs.Basis.{OfTie, Among, WalkAdds}
use Rattle.basis.proofs.Names.{among-more, among-last}

pub one-true : (a b : Bool) → a || b ≡ true ↔ (a ≡ true) ⊎ (b ≡ true)
one-true true b = (λ e. inl refl, λ o. refl)
one-true false b = (λ e. inr e, ⊎_elim (λ e. absurd (false≢true e)) (λ e. e))

pub either-has : {P Q : ℕ → Type 0} (a b ties : Ties) → ((t : ℕ) → has ties t ≡ has a t || has b t) → ((t : ℕ) → has a t ≡ true ↔ P t) →
    ((t : ℕ) → has b t ≡ true ↔ Q t) → (t : ℕ) → has ties t ≡ true ↔ P t ⊎ Q t
either-has a b ties f p q t =
    let (to, from) = one-true (has a t) (has b t) in (
      λ e. ⊎_elim (λ x. inl ((p t).0 x)) (λ y. inr ((q t).0 y)) (to (sym (f t) ∙ e)),
      λ o. f t ∙ from (⊎_elim (λ x. inl ((p t).1 x)) (λ y. inr ((q t).1 y)) o),
    )

-- the ties of one name more: that of a tie, or another
module _ {count : ℕ} {bounds : List ℕ} {ties : Ties} (D : WalkAdds count bounds ties) where
  pub adds-tie : (own : Ties) {new : Ties} → 1024 ≤ get_or bounds count 0 → ((t : ℕ) → has own t ≡ eqb t (get_or bounds count 0 % 256)) →
      ((t : ℕ) → has new t ≡ has ties t || has own t) → WalkAdds (count + 1) bounds new
  adds-tie own {new} h o f =
      record {
        exactly = λ t. (
          λ e. ⊎_elim (λ A. among-more A) (last t) ((both t).0 e),
          λ A. (both t).1 (⊎_elim (λ B. inl B) (λ B. inr (sym B.1)) (among-last A)),
        );
      }
    where
      is : (t : ℕ) → has own t ≡ true ↔ (t ≡ get_or bounds count 0 % 256)
      is t = (λ e. eqb-true t _ (sym (o t) ∙ e), λ e. o t ∙ eq-eqb t _ e)

      both : (t : ℕ) → has new t ≡ true ↔ Among OfTie count bounds t ⊎ (t ≡ get_or bounds count 0 % 256)
      both = either-has ties own new f D.exactly is

      last : (t : ℕ) → t ≡ get_or bounds count 0 % 256 → Among OfTie (count + 1) bounds t
      last t e = record { at = count; within = omega arith; sort = h; number = sym e }

  pub adds-other : get_or bounds count 0 < 1024 → WalkAdds (count + 1) bounds ties
  adds-other h =
      record {
        exactly = λ t. (
          λ e. among-more ((D.exactly t).0 e),
          λ A. ⊎_elim (λ B. (D.exactly t).1 B) (λ B. absurd (omega (arith, B.0))) (among-last A),
        );
      }
