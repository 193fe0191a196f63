-- The pair that was looked for, with the lower term first: of two terms that have the same input, each has that of the other.
-- Assumes nothing.
use Prim.Native.Nat.{ℕ, ◌<◌}
use lib.IntN.{pos}
use native.Mathlib.Omega.{arith}
use Rattle.closure.specs.Closed.{TiedAt}
use Rattle.sheet.specs.Sheet.{Term, Sheet, count_terms}
use Rattle.meaning.specs.Meaning.{one, two}
use Rattle.ties.proofs.Zero.{tied_back}
use Rattle.joined.specs.Joined.{Joined, JoinedAt}
use Rattle.matched.specs.Matched.{Untied}

-- terms a and b have the same input, and the table doesn't tie them
pub record Pair (s : Sheet) (d : ℕ → ℕ → ℕ) (a b : ℕ) : Type 0 where
  pub left< : a < count_terms s
  pub right< : b < count_terms s
  pub joined : JoinedAt s d a b
  pub untied : TiedAt d a b (pos 0) → ⊥

joined_back : {d : ℕ → ℕ → ℕ} {t u : Term} → Joined d t u → Joined d u t
joined_back (one p) = one (tied_back p)
joined_back (two p q) = two (tied_back p) (tied_back q)

pub pair : {s : Sheet} {d : ℕ → ℕ → ℕ} {i j : ℕ} → (i < count_terms s) × (j < i) × Untied s d i j → Pair s d j i
pair F = record { left< = omega (arith, F.0, F.1); right< = F.0; joined = joined_back F.2.joined; untied = λ t. F.2.untied (tied_back t) }
