-- Sums and leasts of the first n.
-- Assumes nothing.
use Prim.Native.Nat.{ℕ, zero, suc, ◌+◌, ◌*◌, ◌≤◌, ◌<◌}
use mathlib.Core.Logic.{⊎_elim}
use native.Mathlib.Nat.{suc-mul, eq-or-lt_of_le}
use native.Mathlib.Omega.{arith}
use Rattle.kind.specs.Code.{half}
use Rattle.levels.specs.Level.{sum_to, least_to}

-- term by term, with a constant on each side
pub sum-le : (n a b : ℕ) (f g : ℕ → ℕ) → ((k : ℕ) → k < n → f k + a ≤ g k + b) → sum_to n f + n * a ≤ sum_to n g + n * b
unfolding sum_to
sum-le zero a b f g h = omega arith
sum-le (suc n) a b f g h =
    omega (arith, sum-le n a b f g (λ k l. h k (omega arith)), h n (omega arith), suc-mul n a, suc-mul n b)

-- and one term strictly
pub sum_lt : (n a b s : ℕ) (f g : ℕ → ℕ) → s < n → ((k : ℕ) → k < n → f k + a ≤ g k + b) → f s + a < g s + b
    → sum_to n f + n * a < sum_to n g + n * b
unfolding sum_to
sum_lt zero a b s f g l h q = absurd (omega arith)
sum_lt (suc n) a b s f g l h q =
    ⊎_elim
    (λ e. omega (arith, sum-le n a b f g (λ k l. h k (omega arith)), rw e at q, suc-mul n a, suc-mul n b))
    (λ p. omega (arith, sum_lt n a b s f g p (λ k l. h k (omega arith)) q, h n (omega arith), suc-mul n a, suc-mul n b))
    (eq-or-lt_of_le {n = s} {m = n} (omega arith))

pub least_zero : (n : ℕ) (f : ℕ → ℕ) → least_to n f ≤ half
unfolding least_to
least_zero zero f = omega arith
least_zero (suc n) f = omega (arith, least_zero n f)

pub least-le : (n s : ℕ) (f : ℕ → ℕ) → s < n → least_to n f ≤ f s
unfolding least_to
least-le zero s f l = absurd (omega arith)
least-le (suc n) s f l =
    ⊎_elim (λ e. rw e (omega arith)) (λ p. omega (arith, least-le n s f p)) (eq-or-lt_of_le {n = s} {m = n} (omega arith))

-- what is at most 0 and each of the first n, over a, is at most the least over a
pub le-least : (n m a : ℕ) (f : ℕ → ℕ) → m ≤ a + half → ((k : ℕ) → k < n → m ≤ a + f k) → m ≤ a + least_to n f
unfolding least_to
le-least zero m a f z h = z
le-least (suc n) m a f z h = omega (arith, le-least n m a f z (λ k l. h k (omega arith)), h n (omega arith))
