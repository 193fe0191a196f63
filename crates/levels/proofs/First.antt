-- The first that passes a test.
-- Assumes nothing.
use Prim.Native.Nat.{ℕ, zero, suc, ◌+◌, ◌≤◌, ◌<◌}
use mathlib.Core.Path.{◌≡◌, refl}
use mathlib.Core.Bool.{Bool, true, false, cond}
use mathlib.Core.Logic.{⊎_elim}
use native.Mathlib.Nat.{eq-or-lt_of_le}
use native.Mathlib.Omega.{arith}
use Rattle.levels.specs.Level.{first}

-- where the last passes, the first does
pub first-true : (t : ℕ → Bool) (m k n : ℕ) → n ≡ m + k → t n ≡ true → t (first t m k) ≡ true
unfolding first
first-true t zero k n e h = let f : n ≡ k = omega arith in rw f at h
first-true t (suc m) k n e h = go (t k) refl (first-true t m (suc k) n (omega arith) h)
  where
    go : (b : Bool) → t k ≡ b → t (first t m (suc k)) ≡ true → t (cond b k (first t m (suc k))) ≡ true
    go true f r = f
    go false f r = r

-- none before it does
pub first-low : (t : ℕ → Bool) (m k j : ℕ) → k ≤ j → j < first t m k → t j ≡ false
unfolding first
first-low t zero k j h l = absurd (omega arith)
first-low t (suc m) k j h l = go (t k) refl (λ p q. first-low t m (suc k) j p q) l
  where
    go : (b : Bool) → t k ≡ b → (suc k ≤ j → j < first t m (suc k) → t j ≡ false) → j < cond b k (first t m (suc k)) → t j ≡ false
    go true f r q = absurd (omega arith)
    go false f r q = ⊎_elim (λ e. rw e at f) (λ p. r p q) (eq-or-lt_of_le {n = k} {m = j} h)

pub first_below : (t : ℕ → Bool) (m k : ℕ) → first t m k ≤ m + k
unfolding first
first_below t zero k = omega arith
first_below t (suc m) k = go (t k) (first_below t m (suc k))
  where
    go : (b : Bool) → first t m (suc k) ≤ m + suc k → cond b k (first t m (suc k)) ≤ suc m + k
    go true r = omega arith
    go false r = omega arith
