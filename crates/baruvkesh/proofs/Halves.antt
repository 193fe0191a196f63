-- Number and place are read back from the one number: a place fits the low half.
-- Assumes nothing.
use Prim.Native.Nat.{ℕ, ◌+◌, ◌*◌, ◌/◌, ◌%◌, ◌<◌}
use mathlib.Core.Path.{◌≡◌, ap, ◌∙◌}
use native.Mathlib.Nat.{mul-add-div_right, add-mul-mod_self_right, div-eq_of_lt, mod-eq_of_lt, add_comm}
use native.Mathlib.Omega.{arith}

module _ (half number place : ℕ) (low : place < half) where
  number-back : (number * half + place) / half ≡ number
  number-back = mul-add-div_right (omega arith) number place ∙ ap (λ (n : ℕ). number + n) (div-eq_of_lt low) ∙ omega arith

  place-back : (number * half + place) % half ≡ place
  place-back = ap (λ (n : ℕ). n % half) (add_comm (number * half) place) ∙ add-mul-mod_self_right place number half ∙ mod-eq_of_lt low

-- so what is promised of the two is promised of the halves
pub read_back : (P : ℕ → ℕ → Type 0) (half r : ℕ) {number place : ℕ} → place < half → r ≡ number * half + place → P number place →
    P (r / half) (r % half)
read_back P half r {number} {place} low e p = rw (e, number-back half number place low, place-back half number place low) p
