-- Decimal digits: of a number below ten, of ten times a number plus a digit, and every number is one of the two.
-- Assumes nothing.
use Prim.Native.Nat.{ℕ, zero, suc, ◌+◌, ◌*◌, ◌/◌, ◌%◌, ◌≤◌, ◌<◌}
use mathlib.Core.Path.{◌≡◌, sym, ap, ◌∙◌, subst}
use mathlib.Core.List.{List, [], ◌∷◌, ◌++◌}
use native.Mathlib.Omega.{arith}
use native.Mathlib.Decide.{dec_lt}
use borrow.Author.Tests.{lt-ltb, le-ltb}
use Rattle.text.specs.Print.{digits_in, decimal}

in_one : (k n : ℕ) → n < 10 → digits_in (suc k) n ≡ (48 + n) ∷ []
unfolding digits_in
in_one k n h = rw (lt-ltb n 10 h, digits_in)

in-more : (k n : ℕ) → 10 ≤ n → digits_in (suc k) n ≡ digits_in k (n / 10) ++ (48 + n % 10) ∷ []
unfolding digits_in
in-more k n h = rw (le-ltb n 10 h, digits_in)

-- more room changes nothing
same_in : (k m n : ℕ) → n < k → n < m → digits_in k n ≡ digits_in m n
same_in zero m n h l = absurd (omega arith)
same_in (suc k) zero n h l = absurd (omega arith)
same_in (suc k) (suc m) n h l = go (dec_lt n 10) (same_in k m (n / 10))
  where
    go : Dec (n < 10) → (n / 10 < k → n / 10 < m → digits_in k (n / 10) ≡ digits_in m (n / 10)) → digits_in (suc k) n ≡ digits_in (suc m) n
    go (yes q) f = in_one k n q ∙ sym (in_one m n q)
    go (no q) f = in-more k n (omega arith) ∙ ap (λ (l : List ℕ). l ++ (48 + n % 10) ∷ []) (f (omega arith) (omega arith)) ∙ sym (in-more m n (omega arith))

pub decimal-one : (d : ℕ) → d < 10 → decimal d ≡ (48 + d) ∷ []
unfolding decimal
decimal-one d h = in_one d d h

pub decimal-more : (v d : ℕ) → 0 < v → d < 10 → decimal (v * 10 + d) ≡ decimal v ++ (48 + d) ∷ []
unfolding decimal
decimal-more v d h l =
    let e : (v * 10 + d) / 10 ≡ v = omega arith in
    let f : (v * 10 + d) % 10 ≡ d = omega arith in
    in-more (v * 10 + d) (v * 10 + d) (omega arith)
    ∙ rw (e, f) (ap (λ (l : List ℕ). l ++ (48 + d) ∷ []) (same_in (v * 10 + d) (suc v) v (omega arith) (omega arith)))

-- a number and its digits
pub data Digits : ℕ → List ℕ → Type 0 where
  one : {d : ℕ} → d < 10 → Digits d ((48 + d) ∷ [])
  more : {v d : ℕ} {ds : List ℕ} → 0 < v → d < 10 → Digits v ds → Digits (v * 10 + d) (ds ++ (48 + d) ∷ [])

digits_in_lem : (k n : ℕ) → n < k → Digits n (digits_in k n)
digits_in_lem zero n h = absurd (omega arith)
digits_in_lem (suc k) n h = go (dec_lt n 10) (digits_in_lem k (n / 10))
  where
    go : Dec (n < 10) → (n / 10 < k → Digits (n / 10) (digits_in k (n / 10))) → Digits n (digits_in (suc k) n)
    go (yes q) f = rw (in_one k n q) (one q)
    go (no q) f =
        let e : n / 10 * 10 + n % 10 ≡ n = omega arith in
        rw (in-more k n (omega arith)) (subst (λ (m : ℕ). Digits m (digits_in k (n / 10) ++ (48 + n % 10) ∷ [])) e (more (omega arith) (omega arith) (f (omega arith))))

pub decimal-digits : (n : ℕ) → Digits n (decimal n)
unfolding decimal
decimal-digits n = digits_in_lem (suc n) n (omega arith)
