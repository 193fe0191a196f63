-- Going down by number over marks in a list: a mark is taken away, and put back where it is needed.
-- Assumes nothing.
use Prim.Native.Nat.{ℕ, suc, ◌≤◌, ◌<◌}
use mathlib.Core.Path.{◌≡◌, sym, ◌∙◌}
use mathlib.Core.Bool.{Bool, true, false}
use mathlib.Core.List.{List}
use lib.ListN.{length, set, length-set}
use lib.Seq.{get_or-set_same, get_or-set_other}
use native.Mathlib.Omega.{arith}
use native.Mathlib.Decide.{ℕ_discrete}
use Rattle.order.specs.First.{Set, Agree, Upward, marked, number}
use Rattle.order.specs.Down.{Next, Cleared, GoneDown, leaves, keeps}
use Rattle.order.proofs.Laws.{number-ties}
use Rattle.order.proofs.Greedy.{down}

module _ (L x : ℕ) (m : List Bool) (h : x < length m) where
  taken : (r : ℕ) → suc x ≡ r → Cleared L number x r (marked m) (marked (set m x false))
  taken r s = record {
    out = λ y l p q. let e : y ≡ x = omega arith in rw e (get_or-set_same m x false false h);
    low = λ y l p. get_or-set_other m x y false false (omega arith);
    high = λ y l p. get_or-set_other m x y false false (omega arith);
  }

  put_back : marked m x ≡ true → Agree L (marked m) (marked (set (set m x false) x true))
  put_back e y l = go (ℕ_discrete y x)
    where
      go : Dec (y ≡ x) → marked m y ≡ marked (set (set m x false) x true) y
      go (yes q) = rw q (e ∙ sym (get_or-set_same (set m x false) x true false (simp length-set h)))
      go (no q) = sym (get_or-set_other (set m x false) x y true false q ∙ get_or-set_other m x y false false q)

-- the next entry below r is x
module _ {P : Set → Type 0} {L r : ℕ} (x : ℕ) (m : List Bool) (s : suc x ≡ r) (below : r ≤ L) (size : L ≤ length m) (d : GoneDown P L number r (marked m)) where
  next : Next L number r x
  next = record { entry = omega arith; under = omega arith; top = λ y l p. omega arith }

  pub number-leaves : P (marked (set m x false)) → GoneDown P L number x (marked (set m x false))
  number-leaves p = leaves {k = x} d (omega arith) (taken L x m (omega arith) r s) p

  pub number-keeps : Upward L P → (P (marked (set m x false)) → ⊥) → GoneDown P L number x (marked (set (set m x false) x true))
  number-keeps up n =
      let e = (down (number-ties L) up d).full x next.entry next.under in
      keeps {x = x} d next (taken L x m (omega arith) r s) n (put_back L x m (omega arith) e)
