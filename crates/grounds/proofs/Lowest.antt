-- The lowest wrong number, as a search from the front finds it.
-- Assumes nothing.
use Prim.Native.Nat.{ℕ, zero, suc, ◌+◌, ◌≤◌, ◌<◌}
use mathlib.Core.Path.{◌≡◌, refl, sym, ap, ◌∙◌}
use mathlib.Core.Bool.{Bool, true, false}
use native.Mathlib.Omega.{arith}
use Rattle.grounds.specs.Found.{LowestWrong}
use Rattle.grounds.specs.Rows.{lowest}

pub lowest-found : (n : ℕ) (wrong : ℕ → Bool) (i : ℕ) → i < n → ((k : ℕ) → k < i → wrong k ≡ false) → wrong i ≡ true → lowest n wrong ≡ i
unfolding lowest
lowest-found zero wrong i h clear here = absurd (omega arith)
lowest-found (suc n) wrong zero h clear here = rw here
lowest-found (suc n) wrong (suc i) h clear here =
    rw (clear 0 (omega arith)) (ap suc (lowest-found n (λ k. wrong (suc k)) i (omega arith) (λ k l. clear (suc k) (omega arith)) here))

pub lowest-none : (n : ℕ) (wrong : ℕ → Bool) → ((k : ℕ) → k < n → wrong k ≡ false) → lowest n wrong ≡ n
unfolding lowest
lowest-none zero wrong clear = refl
lowest-none (suc n) wrong clear =
    rw (clear 0 (omega arith)) (ap suc (lowest-none n (λ k. wrong (suc k)) (λ k l. clear (suc k) (omega arith))))

-- where the lowest isn't below n, nothing below n is wrong
pub lowest-clear : (n : ℕ) (wrong : ℕ → Bool) → n ≤ lowest n wrong → (k : ℕ) → k < n → wrong k ≡ false
unfolding lowest
lowest-clear zero wrong h k l = absurd (omega arith)
lowest-clear (suc n) wrong h k l = go (wrong 0) refl k l (lowest-clear n (λ i. wrong (suc i)))
  where
    go : (t : Bool) → wrong 0 ≡ t → (k : ℕ) → k < suc n → (n ≤ lowest n (λ i. wrong (suc i)) → (i : ℕ) → i < n → wrong (suc i) ≡ false) → wrong k ≡ false
    go true e k l later = let none : suc n ≤ 0 = rw e at h in absurd (omega arith)
    go false e zero l later = e
    go false e (suc k) l later =
        let some : suc n ≤ suc (lowest n (λ i. wrong (suc i))) = rw e at h in later (omega arith) k (omega arith)

-- a search from the front: it comes to i, and none before it is wrong
pub found : {n : ℕ} {wrong : ℕ → Bool} {i : ℕ} → ((k : ℕ) → k < i → wrong k ≡ false) → i < n → wrong i ≡ true → LowestWrong n wrong i
found clear h here = (sym (lowest-found _ _ _ h clear here), h)
