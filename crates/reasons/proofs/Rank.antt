-- The new numbers of steps that are kept: they rise with the old ones, each below the last is some kept step's, and there stands that step,
-- renamed.
-- Assumes nothing.
use Prim.Native.Nat.{ℕ, zero, suc, ◌+◌, ◌≤◌, ◌<◌}
use mathlib.Core.Path.{◌≡◌, refl, sym, ap}
use mathlib.Core.Bool.{Bool, true, false}
use mathlib.Core.Logic.{⊎_elim}
use mathlib.Core.List.{List, [], ◌∷◌}
use lib.ListN.{length}
use native.Mathlib.Nat.{eq-or-lt_of_le}
use native.Mathlib.Omega.{arith}
use native.Mathlib.Decide.{ℕ_discrete}
use Rattle.order.specs.First.{Set}
use Rattle.reasons.specs.Step.{Step, step_at}
use Rattle.reasons.specs.Pruned.{rank, renamed, pruned_from, pruned}

module _ (keep : Set) where
  pub rank-kept : (n : ℕ) → keep n ≡ true → rank keep (suc n) ≡ suc (rank keep n)
  unfolding rank
  rank-kept n e = rw e

  pub rank_left : (n : ℕ) → keep n ≡ false → rank keep (suc n) ≡ rank keep n
  unfolding rank
  rank_left n e = rw e

  pub rank-zero : rank keep 0 ≡ 0
  unfolding rank
  rank-zero = refl

  rank-next : (n : ℕ) → rank keep n ≤ rank keep (suc n)
  rank-next n = go (keep n) refl
    where
      go : (t : Bool) → keep n ≡ t → rank keep n ≤ rank keep (suc n)
      go true e = omega (arith, rank-kept n e)
      go false e = omega (arith, rank_left n e)

  rank_up : (m n : ℕ) → m ≤ n → rank keep m ≤ rank keep n
  rank_up m zero l = rw (let e : m ≡ 0 = omega arith in e) (omega arith)
  rank_up m (suc n) l = ⊎_elim (λ e. rw e (omega arith)) (λ k. omega (arith, rank_up m n (omega arith), rank-next n)) (eq-or-lt_of_le {n = m} {m = suc n} l)

  -- a kept step stays before the later ones
  pub rank-before : (m n : ℕ) → m < n → keep m ≡ true → rank keep m < rank keep n
  rank-before m n l e = omega (arith, rank-kept m e, rank_up (suc m) n l)

  -- the kept step whose new number is k
  pub record Old (n k : ℕ) : Type 0 where
    pub step : ℕ
    pub below : step < n
    pub kept : keep step ≡ true
    pub is : rank keep step ≡ k

  old-more : {n k : ℕ} → Old n k → Old (suc n) k
  old-more o = record { step = o.step; below = omega (arith, o.below); kept = o.kept; is = o.is }

  pub old : (n k : ℕ) → k < rank keep n → Old n k
  old zero k l = absurd (omega (arith, rank-zero))
  old (suc n) k l = go (keep n) refl (λ h. old n k h)
    where
      last : keep n ≡ true → (k < rank keep n → Old n k) → Dec (k ≡ rank keep n) → Old (suc n) k
      last e f (yes h) = record { step = n; below = omega arith; kept = e; is = sym h }
      last e f (no h) = old-more (f (omega (arith, rank-kept n e)))

      go : (t : Bool) → keep n ≡ t → (k < rank keep n → Old n k) → Old (suc n) k
      go true e f = last e f (ℕ_discrete k (rank keep n))
      go false e f = old-more (f (omega (arith, rank_left n e)))

  -- the first of the steps from m on
  pruned-kept : (x : Step) (ks : List Step) (m : ℕ) → keep m ≡ true → pruned_from keep m (x ∷ ks) ≡ renamed keep x ∷ pruned_from keep (suc m) ks
  unfolding pruned_from
  pruned-kept x ks m e = rw e

  pruned-left : (x : Step) (ks : List Step) (m : ℕ) → keep m ≡ false → pruned_from keep m (x ∷ ks) ≡ pruned_from keep (suc m) ks
  unfolding pruned_from
  pruned-left x ks m e = rw e

  pub pruned-length : (ks : List Step) (m : ℕ) → length (pruned_from keep m ks) + rank keep m ≡ rank keep (m + length ks)
  unfolding pruned_from
  pruned-length [] m = rw (let e : m + 0 ≡ m = omega arith in e) (omega arith)
  pruned-length (x ∷ ks) m =
      let e : m + length (x ∷ ks) ≡ suc m + length ks = omega arith in
      rw e (one_more (pruned-length ks (suc m)) (keep m) refl)
    where
      one_more : {k : ℕ} → length (pruned_from keep (suc m) ks) + rank keep (suc m) ≡ k → (t : Bool) → keep m ≡ t →
          length (pruned_from keep m (x ∷ ks)) + rank keep m ≡ k
      one_more h true e = omega (arith, ap length (pruned-kept x ks m e), rank-kept m e)
      one_more h false e = omega (arith, ap length (pruned-left x ks m e), rank_left m e)

  -- from m on, the kept step o that is the n-th from there is the k-th, renamed
  record Stands (ks : List Step) (m n o k : ℕ) : Type 0 where
    there : n < length ks
    number : o ≡ m + n
    kept : keep o ≡ true
    new : rank keep o ≡ rank keep m + k

  stands_at : (ks : List Step) (m n o k : ℕ) → Stands ks m n o k → step_at (pruned_from keep m ks) k ≡ renamed keep (step_at ks n)
  stands_at [] m n o k S = absurd (omega arith)
  stands_at (x ∷ ks) m zero o k S =
      let a : o ≡ m = omega arith in
      let b : k ≡ 0 = omega (arith, ap (rank keep) a) in
      rw (b, pruned-kept x ks m (rw a at S.kept))
  stands_at (x ∷ ks) m (suc n) o k S = go k (keep m) refl S (λ j. stands_at ks (suc m) n o j)
    where
      go : (k : ℕ) (t : Bool) → keep m ≡ t → Stands (x ∷ ks) m (suc n) o k →
          ((j : ℕ) → Stands ks (suc m) n o j → step_at (pruned_from keep (suc m) ks) j ≡ renamed keep (step_at ks n))
          → step_at (pruned_from keep m (x ∷ ks)) k ≡ renamed keep (step_at ks n)
      go k false e S f =
          rw (pruned-left x ks m e) (f k (record { there = omega arith; number = omega arith; kept = S.kept; new = omega (arith, rank_left m e) }))
      go zero true e S f = absurd (omega (arith, rank-before m o (omega arith) e))
      go (suc k) true e S f =
          rw (pruned-kept x ks m e) (f k (record { there = omega arith; number = omega arith; kept = S.kept; new = omega (arith, rank-kept m e) }))

pub at-rank : (keep : Set) (steps : List Step) (n : ℕ) → n < length steps → keep n ≡ true →
    step_at (pruned keep steps) (rank keep n) ≡ renamed keep (step_at steps n)
at-rank keep steps n l e =
    stands_at keep steps 0 n n (rank keep n) (record { there = l; number = omega arith; kept = e; new = omega (arith, rank-zero keep) })
