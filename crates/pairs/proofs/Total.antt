-- The sum of all cells falls with each tie that is new.
-- Assumes nothing.
use Prim.Native.Nat.{ℕ, ◌+◌, ◌≤◌, ◌<◌}
use mathlib.Core.Logic.{⊎_elim}
use lib.IntN.{pos}
use native.Mathlib.Omega.{arith}
use Rattle.whole.proofs.Order.{order}
use Rattle.closure.specs.Closed.{TiedAt}
use Rattle.levels.specs.Level.{sum_to}
use Rattle.levels.proofs.Sums.{sum-le, sum_lt}
use Rattle.pairs.specs.Passing.{total}

module _ (n : ℕ) (d e : ℕ → ℕ → ℕ) (tighter : (i j : ℕ) → i < n → j < n → e i j ≤ d i j) where
  row : (i : ℕ) → i < n → sum_to n (λ j. e i j) + 0 ≤ sum_to n (λ j. d i j) + 0
  row i i< = omega (arith, sum-le n 0 0 (λ j. e i j) (λ j. d i j) (λ j j<. omega (arith, tighter i j i< j<)))

  falls_at : (i j : ℕ) → i < n → j < n → e i j < d i j → total n e < total n d
  unfolding total
  falls_at i j i< j< h =
      omega (
        arith,
        sum_lt n 0 0 i (λ k. sum_to n (λ j. e k j)) (λ k. sum_to n (λ j. d k j)) i< row
            (omega (arith, sum_lt n 0 0 j (λ k. e i k) (λ k. d i k) j< (λ k k<. omega (arith, tighter i k i< k<)) (omega arith))),
      )

  -- a tie is new where one of its two cells is tighter than it was
  pub falls : (i j : ℕ) → i < n → j < n → (TiedAt d i j (pos 0) → ⊥) → TiedAt e i j (pos 0) → total n e < total n d
  falls i j i< j< not t =
      ⊎_elim
      (λ p.
      ⊎_elim
      (λ q.
      absurd
      (not
      (record {
        to = record { there = omega (arith, t.to.there); bound = omega (arith, t.to.bound) };
        back = record { there = omega (arith, t.back.there); bound = omega (arith, t.back.bound) };
      })))
      (falls_at j i j< i<)
      (order (d j i) (e j i)))
      (falls_at i j i< j<)
      (order (d i j) (e i j))
