-- What links are once one point is written below and another above: these two, and the others as they were.
-- Assumes nothing.
use Prim.Native.Nat.{ℕ, ◌<◌}
use mathlib.Core.Path.{◌≡◌, ◌∙◌}
use mathlib.Core.Logic.{◌≢◌}
use mathlib.Core.List.{List}
use lib.ListN.{length, get_or, set, length-set}
use lib.Seq.{get_or-set_same, get_or-set_other}
use native.Mathlib.Omega.{arith}
use native.Mathlib.Decide.{ℕ_discrete}

module _ (links : List ℕ) (x y v w : ℕ) where
  abbrev hung : List ℕ
  hung = set (set links x v) y w

  pub at-lower : x ≢ y → x < length links → get_or hung x 0 ≡ v
  at-lower apart p = get_or-set_other (set links x v) y x w 0 apart ∙ get_or-set_same links x v 0 p

  pub at-upper : y < length links → get_or hung y 0 ≡ w
  at-upper q = get_or-set_same (set links x v) y w 0 (omega (arith, length-set links x v))

  pub at_other : (i : ℕ) → i ≢ x → i ≢ y → get_or hung i 0 ≡ get_or links i 0
  at_other i p q = get_or-set_other (set links x v) y i w 0 q ∙ get_or-set_other links x i v 0 p

-- any point is the upper one, the lower one, or another
pub three : {A : Type 0} (x y i : ℕ) → (i ≡ y → A) → (i ≢ y → i ≡ x → A) → (i ≢ x → i ≢ y → A) → A
three {A} x y i f g h = go (ℕ_discrete i y) (ℕ_discrete i x)
  where
    go : Dec (i ≡ y) → Dec (i ≡ x) → A
    go (yes q) p = f q
    go (no q) (yes p) = g q p
    go (no q) (no p) = h p q
