-- Marks that are the same, entry by entry.
-- Assumes nothing.
use Prim.Native.Nat.{ℕ, ◌≤◌, ◌<◌}
use mathlib.Core.Path.{◌≡◌, refl, sym, ◌∙◌, ap}
use mathlib.Core.Bool.{Bool, true, false, beq, true≢false}
use mathlib.Core.List.{List}
use lib.ListN.{length, get_or, take}
use lib.Pointwise.{pointwise}
use native.Mathlib.Omega.{arith}
use Rattle.std.specs.Cmp.{booleans_Decides}
use Rattle.std.proofs.lemmas.List.{ext_get_or, get_or-take, length-take-le}
use Rattle.std.proofs.lemmas.Slice.Eq.{slice_eq-Decides}
use Rattle.order.specs.First.{marked, Agree}
use Rattle.meaning.specs.Decides.{Decides}

-- the first marks of two rows are the same
module _ (n : ℕ) (xs ys : List Bool) (first : n ≤ length xs) (second : n ≤ length ys) where
  agree : take n xs ≡ take n ys → Agree n (marked xs) (marked ys)
  agree e x l = sym (get_or-take n xs x false l) ∙ ap (λ (row : List Bool). get_or row x false) e ∙ get_or-take n ys x false l

  agreed : Agree n (marked xs) (marked ys) → take n xs ≡ take n ys
  agreed a =
      ext_get_or false (take n xs) (take n ys) (length-take-le n xs first ∙ sym (length-take-le n ys second))
      (λ x h. let l : x < n = omega (arith, length-take-le n xs first) in get_or-take n xs x false l ∙ a x l ∙ sym (get_or-take n ys x false l))

  pub fronts-told : (r : Bool) → r ≡ pointwise beq (take n xs) (take n ys) → Decides (Agree n (marked xs) (marked ys)) r
  fronts-told r e =
      let (to, from) = slice_eq-Decides booleans_Decides (take n xs) (take n ys) r e in
      record { yes = λ t. agree (to t); no = λ f a. true≢false (sym (from (agreed a)) ∙ f) }

pub same_truth : (a b : Bool) → (a ≡ true → b ≡ true) → (b ≡ true → a ≡ true) → a ≡ b
same_truth true b f g = sym (f refl)
same_truth false true f g = g refl
same_truth false false f g = refl
