-- The answers are one only: of two runs of insert on the same numbers the place, and what each place holds; of first_from the place.
-- Assumes nothing.
use Prim.Native.Nat.{ℕ, ◌<◌}
use mathlib.Core.Path.{◌≡◌, sym, ◌∙◌}
use mathlib.Core.Logic.{⊎_elim}
use mathlib.Core.List.{List}
use lib.ListN.{get_or}
use native.Mathlib.Nat.{eq-or-lt_of_le}
use native.Mathlib.Omega.{arith}
use Rattle.whole.proofs.Order.{order, neither-below}
use Rattle.sorted.specs.Inserted.{Inserted, FirstFrom}
use Rattle.sorted.proofs.Inserted.{above}

module _ {m key : ℕ} {old : List ℕ} where
  not_lower : {new new' : List ℕ} {p q : ℕ} → Inserted m old new key p → Inserted m old new' key q → p < q → ⊥
  not_lower {p = p} A B l = omega (arith, B.lower p l, A.higher p (omega arith) (omega (arith, B.within)))

  pub one_place : {new new' : List ℕ} {p q : ℕ} → Inserted m old new key p → Inserted m old new' key q → p ≡ q
  one_place A B = neither-below (not_lower A B) (not_lower B A)

  pub one_list : {new new' : List ℕ} {p : ℕ} → Inserted m old new key p → Inserted m old new' key p → (q : ℕ) → get_or new q 0 ≡ get_or new' q 0
  one_list {new} {new'} {p} A B q =
      ⊎_elim
      (λ h.
      ⊎_elim
      (λ e. let f : q ≡ p = omega arith in rw f (A.here ∙ sym B.here))
      (λ g. ⊎_elim (λ k. (above A q g (omega arith)).0 ∙ sym (above B q g (omega arith)).0) (λ k. A.past q k ∙ sym (B.past q k)) (order q m))
      (eq-or-lt_of_le {n = p} {m = q} h))
      (λ g. (A.lower q g).0 ∙ sym (B.lower q g).0)
      (order p q)

-- and the first place from which no key is below the least
pub one-first : {m least p q : ℕ} {keys : List ℕ} → FirstFrom m keys least p → FirstFrom m keys least q → p ≡ q
one-first {m} {least} {p} {q} {keys} A B = neither-below (later A B) (later B A)
  where
    later : {x y : ℕ} → FirstFrom m keys least x → FirstFrom m keys least y → x < y → ⊥
    later {x} C D l = omega (arith, D.below x l, C.from x (omega arith) (omega (arith, D.within)))
