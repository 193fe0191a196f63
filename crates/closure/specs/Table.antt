-- A table that bounds were put in: closed, and nothing in it but what they add up to.
-- Assumes nothing.
use Rattle.std.specs.Prelude.{ℕ, ◌*◌, ◌≤◌, ◌<◌, ◌⊎◌}
use Rattle.kind.specs.Code.{none}
use Rattle.kind.specs.Kind.{Kind, kind_of}
use Rattle.closure.specs.Closed.{Closed}
use Rattle.closure.specs.Walk.{Tight, Near, Reached}

-- the number of a sheet's bound is from -32,768 to 32,768
abbrev pub step : ℕ
step = 32768

-- over N points, N such bounds
abbrev pub reach : ℕ → ℕ
reach N = N * step

-- a bound of a sheet's size that the table d holds
pub record Held (N : ℕ) (d : ℕ → ℕ → ℕ) (i j : ℕ) (g : Kind) : Type 0 where
  pub from : i < N
  pub to : j < N
  pub near : Near step g
  pub held : Tight (kind_of (d i j)) g

-- each cell has no gap, or that of a walk over bounds that the table holds
pub record Table (N : ℕ) (d : ℕ → ℕ → ℕ) : Type 0 where
  pub closed : Closed N (reach N) d
  pub walked : (i j : ℕ) → i < N → j < N → (none ≤ d i j) ⊎ Reached (Held N d) i j (kind_of (d i j))
