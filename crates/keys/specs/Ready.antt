-- Levels that no test overflows on. v has a level for each of t terms and, at t, the zero level.
-- Assumes nothing.
use Rattle.std.specs.Prelude.{ℕ, ◌+◌, ◌^◌, ◌≤◌, ◌<◌, List, length, get_or}

-- the answer's limits: every level within 2 ^ 40 of the zero level
pub record Near (v : List ℕ) (t : ℕ) : Type 0 where
  pub above : (i : ℕ) → i < t → get_or v i 0 ≤ get_or v t 0 + 2 ^ 40
  pub below : (i : ℕ) → i < t → get_or v t 0 ≤ get_or v i 0 + 2 ^ 40

-- levels that no test overflows on
pub record Ready (v : List ℕ) (t : ℕ) : Type 0 where
  pub enough : t < length v
  pub low : get_or v t 0 < 2 ^ 62
  pub near : Near v t
