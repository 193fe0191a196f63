-- What is promised of values: they meet every cell of a table, and are apart by a whole number only where the table says so.
-- Assumes nothing.
use Rattle.std.specs.Prelude.{ℕ, ◌+◌, ◌*◌, ◌≤◌, ◌<◌, ◌≡◌, ℤ, pos, ◌+ℤ◌, ◌*ℤ◌}
use Rattle.whole.specs.Whole.{plus, minus}
use Rattle.kind.specs.Meets.{Meets, whole_of}
use Rattle.closure.specs.Closed.{Tied}

-- the levels n i / (N * N) of the points below N, with point z at 0
pub record Values (N R : ℕ) (d : ℕ → ℕ → ℕ) (z : ℕ) (n : ℕ → ℤ) : Type 0 where
  pub zero : n z ≡ pos 0
  pub meets : (i j : ℕ) → i < N → j < N → Meets (N * N) (d i j) (n i) (n j)
  pub exact : (i j : ℕ) → i < N → j < N → Tied d i j → n i ≡ n j +ℤ whole_of (d i j) *ℤ pos (N * N)
  pub apart : (i j : ℕ) (c : ℤ) → i < N → j < N → n i ≡ n j +ℤ c *ℤ pos (N * N) → Tied d i j × (whole_of (d i j) ≡ c)
  pub above : (i : ℕ) → i < N → plus (n i) ≤ N * N * (3 * R + 2)
  pub below : (i : ℕ) → i < N → minus (n i) ≤ N * N * (3 * R + 2)
