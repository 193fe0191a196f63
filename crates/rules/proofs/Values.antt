-- Values given as levels, compared as the meaning compares them: on both sides of a test stand natural numbers.
-- Assumes nothing.
use Prim.Native.Nat.{ℕ, ◌+◌, ◌*◌, ◌^◌, ◌<◌}
use mathlib.Core.Path.{◌≡◌, sym, ap, ◌∙◌}
use mathlib.Core.Bool.{Bool}
use mathlib.Core.List.{List}
use lib.IntN.{ℤ, pos, sub_ℕ, ◌+ℤ◌, ◌*ℤ◌, +ℤ_idl}
use lib.ListN.{get_or}
use native.Mathlib.Omega.{arith}
use Rattle.whole.specs.Whole.{plus, minus}
use Rattle.whole.proofs.Parts.{sub_parts, parts-inj, scaled}
use Rattle.sheet.specs.Sheet.{Relation, equal, unequal, at_most, less}
use Rattle.meaning.specs.Meaning.{Compares}
use Rattle.meaning.specs.Decides.{Decides}
use Rattle.meaning.proofs.Decides.{told}
use Rattle.keys.specs.Ready.{Ready}
use Rattle.rules.specs.Related.{Related}

-- a term's level, to which what a test adds fits
pub level-low : {v : List ℕ} {t : ℕ} (a : ℕ) → Ready v t → a < t → get_or v a 0 < 2 ^ 63
level-low a R l = omega (arith, R.near.above a l)

-- x, y and z are the levels of a, of b and of zero: the values n(a) and n(b) + cD, and the two numbers that are compared for them
module _ (x y z c D : ℕ) where
  -- n(b) + cD
  abbrev other : ℤ
  other = sub_ℕ y z +ℤ sub_ℕ c 32768 *ℤ pos D

  crosswise : plus (sub_ℕ x z) + minus other + (y + c * D) ≡ plus other + minus (sub_ℕ x z) + (x + 32768 * D)
  crosswise = omega (arith, sub_parts x z, sub_parts y z, scaled c 32768 D (sub_ℕ y z))

  equal-to : x + 32768 * D ≡ y + c * D → sub_ℕ x z ≡ other
  equal-to e = parts-inj _ _ (omega (arith, crosswise))

  equal-from : sub_ℕ x z ≡ other → x + 32768 * D ≡ y + c * D
  equal-from e = omega (arith, crosswise, ap plus e, ap minus e)

  module _ {r : Bool} where
    pub value-equal : Decides (x + 32768 * D ≡ y + c * D) r → Decides (sub_ℕ x z ≡ other) r
    value-equal = told equal-to equal-from

    pub value-related : (R : Relation) → Decides (Related (x + 32768 * D) R (y + c * D)) r → Decides (Compares R (sub_ℕ x z) other) r
    value-related equal = value-equal
    value-related unequal = told (λ n e. n (equal-from e)) (λ n e. n (equal-to e))
    value-related at_most = told (λ l. omega (arith, crosswise)) (λ l. omega (arith, crosswise))
    value-related less = told (λ l. omega (arith, crosswise)) (λ l. omega (arith, crosswise))

-- zero's own value adds nothing
pub value-number : (x z c D : ℕ) {r : Bool} → Decides (x + 32768 * D ≡ z + c * D) r → Decides (sub_ℕ x z ≡ sub_ℕ c 32768 *ℤ pos D) r
value-number x z c D d =
    let e : sub_ℕ z z ≡ pos 0 = parts-inj _ _ (omega (arith, sub_parts z z)) in
    let f : sub_ℕ z z +ℤ sub_ℕ c 32768 *ℤ pos D ≡ sub_ℕ c 32768 *ℤ pos D = rw e (+ℤ_idl _) in
    told (λ p. p ∙ f) (λ p. p ∙ sym f) (value-equal x z z c D d)
