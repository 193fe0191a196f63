-- Marks that are added: one, and more behind others.
-- Assumes nothing.
use Prim.Native.Nat.{ℕ, ◌+◌, ◌%◌, ◌≤◌, ◌<◌}
use mathlib.Core.Path.{◌≡◌, sym, ◌∙◌}
use mathlib.Core.Bool.{Bool, true, false}
use mathlib.Core.Logic.{◌⊎◌, inl, inr, ⊎_elim, ◌↔◌}
use mathlib.Core.List.{List}
use lib.ListN.{length, get_or, set, length-set}
use lib.Seq.{get_or-set_same, get_or-set_other}
use native.Mathlib.Omega.{arith}
use native.Mathlib.Decide.{ℕ_discrete}
use Rattle.order.specs.First.{marked}
use Rattle.basis.specs.Basis.{OfEntry, Among, Added}
use Rattle.basis.proofs.Names.{among-more, among-last}

module _ {E : ℕ → Type 0} {old : List Bool} where
  pub added-as : {F : ℕ → Type 0} {new : List Bool} → ((e : ℕ) → E e ↔ F e) → Added E old new → Added F old new
  added-as i A =
      record {
        size = A.size;
        own = λ e. (
          λ m. ⊎_elim (λ k. inl k) (λ x. inr ((i e).0 x)) ((A.own e).0 m),
          ⊎_elim (λ k. (A.own e).1 (inl k)) (λ x. (A.own e).1 (inr ((i e).1 x))),
        );
      }

  pub added-both : {F : ℕ → Type 0} {mid new : List Bool} → Added E old mid → Added F mid new → Added (λ e. E e ⊎ F e) old new
  added-both {F} {mid} {new} A B = record { size = B.size ∙ A.size; own = λ e. (there e, back e) }
    where
      there : (e : ℕ) → marked new e ≡ true → (marked old e ≡ true) ⊎ (E e ⊎ F e)
      there e m = ⊎_elim (λ k. ⊎_elim (λ h. inl h) (λ x. inr (inl x)) ((A.own e).0 k)) (λ y. inr (inr y)) ((B.own e).0 m)

      back : (e : ℕ) → (marked old e ≡ true) ⊎ (E e ⊎ F e) → marked new e ≡ true
      back e (inl h) = (B.own e).1 (inl ((A.own e).1 (inl h)))
      back e (inr (inl x)) = (B.own e).1 (inl ((A.own e).1 (inr x)))
      back e (inr (inr y)) = (B.own e).1 (inr y)

pub added-one : {k : ℕ} (old : List Bool) → k < length old → Added (λ e. k ≡ e) old (set old k true)
added-one {k} old l = record { size = length-set old k true; own = λ e. (there e (ℕ_discrete e k), back e (ℕ_discrete e k)) }
  where
    there : (e : ℕ) → Dec (e ≡ k) → marked (set old k true) e ≡ true → (marked old e ≡ true) ⊎ (k ≡ e)
    there e (yes f) m = inr (sym f)
    there e (no n) m = inl (sym (get_or-set_other old k e true false n) ∙ m)

    back : (e : ℕ) → Dec (e ≡ k) → (marked old e ≡ true) ⊎ (k ≡ e) → marked (set old k true) e ≡ true
    back e (yes f) o = rw f (get_or-set_same old k true false l)
    back e (no n) o = get_or-set_other old k e true false n ∙ ⊎_elim (λ m. m) (λ f. absurd (n (sym f))) o

-- the entries of one name more
module _ {count : ℕ} {bounds : List ℕ} {old new : List Bool} (A : Added (Among OfEntry count bounds) old new) where
  pub added-entry : get_or bounds count 0 < 512 → get_or bounds count 0 % 256 < length new →
      Added (Among OfEntry (count + 1) bounds) old (set new (get_or bounds count 0 % 256) true)
  added-entry h l =
      added-as (λ e. (⊎_elim (λ x. among-more x) (own e), λ x. ⊎_elim (λ y. inl y) (λ y. inr y.1) (among-last x)))
      (added-both A (added-one new l))
    where
      own : (e : ℕ) → get_or bounds count 0 % 256 ≡ e → Among OfEntry (count + 1) bounds e
      own e f = record { at = count; within = omega arith; sort = h; number = f }

  pub added-other : 512 ≤ get_or bounds count 0 → Added (Among OfEntry (count + 1) bounds) old new
  added-other h = added-as (λ e. (λ x. among-more x, λ x. ⊎_elim (λ y. y) (λ y. absurd (omega (arith, y.0))) (among-last x))) A
