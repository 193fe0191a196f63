-- The sum, the least and the first of a row, turn by turn as the loops have them.
-- Assumes nothing.
use Prim.Native.Nat.{ℕ, suc, ◌+◌, ◌-◌, ◌≤◌, ◌<◌, min}
use mathlib.Core.Path.{◌≡◌, refl, ◌∙◌, ap, ap₂}
use mathlib.Core.Bool.{Bool, true, false}
use native.Mathlib.Numerals.{add-one}
use native.Mathlib.Omega.{arith}
use Rattle.kind.specs.Code.{half}
use Rattle.levels.specs.Level.{sum_to, least_to, first}

pub sum-none : (f : ℕ → ℕ) → 0 ≡ sum_to 0 f
unfolding sum_to
sum-none f = refl

pub sum_more : (n x y : ℕ) (f : ℕ → ℕ) → x ≡ sum_to n f → y ≡ f n → x + y ≡ sum_to (n + 1) f
unfolding sum_to
sum_more n x y f p q = rw add-one (omega arith)

pub least-none : (f : ℕ → ℕ) → half ≡ least_to 0 f
unfolding least_to
least-none f = refl

pub least_more : (n x y z : ℕ) (f : ℕ → ℕ) → x ≡ least_to n f → y ≡ f n → z ≡ min x y → z ≡ least_to (n + 1) f
unfolding least_to
least_more n x y z f p q r = rw add-one (r ∙ ap₂ min p q)

-- what is left of the look-up from k on
pub first-here : (t : ℕ → Bool) (i k : ℕ) → k < i → t k ≡ true → first t (i - k) k ≡ k
unfolding first
first-here t i k h e = let f : i - k ≡ suc (i - suc k) = omega arith in rw (f, first, e)

pub first_on : (t : ℕ → Bool) (i k : ℕ) → k < i → t k ≡ false → first t (i - k) k ≡ first t (i - (k + 1)) (k + 1)
unfolding first
first_on t i k h e =
    let f : i - k ≡ suc (i - (k + 1)) = omega arith in
    let g : suc k ≡ k + 1 = omega arith in
    rw (f, first, e, g)

pub first-end : (t : ℕ → Bool) (i k : ℕ) → k ≤ i → i ≤ k → first t (i - k) k ≡ i
unfolding first
first-end t i k h l =
    let f : i - k ≡ 0 = omega arith in
    let g : k ≡ i = omega arith in
    ap (λ (m : ℕ). first t m k) f ∙ g
