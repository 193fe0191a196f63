-- A closed table of gaps over the points below N, as codes: d i j is the gap from i to j, level i ≤ level j + d i j.
-- Assumes nothing.
use Rattle.std.specs.Prelude.{ℕ, ◌+◌, ◌*◌, ◌%◌, ◌≤◌, ◌<◌, ◌≡◌, Bool, cond, ◌&&◌, eqb, ℤ}
use Rattle.whole.specs.Whole.{plus, minus}
use Rattle.kind.specs.Code.{base, half, none, sum_of, tighter_of, Within}

-- d holds all its sums, and its whole numbers are from -R to R, so that sums of four have a code
pub record Closed (N R : ℕ) (d : ℕ → ℕ → ℕ) : Type 0 where
  pub same : (i : ℕ) → i < N → d i i ≡ base
  pub tri : (i j k : ℕ) → i < N → j < N → k < N → d i j ≤ sum_of (d i k) (d k j)
  pub range : (i j : ℕ) → i < N → j < N → Within R (d i j)
  pub small : 4 * R < half

-- i is at a distance of exactly d i j from j: a gap and the same one back, neither strict
pub record Tied (d : ℕ → ℕ → ℕ) (i j : ℕ) : Type 0 where
  pub even : d i j % 2 ≡ 0
  pub back : d i j + d j i ≡ base + base

-- d holds the bound i ≤ j + up - down, or i < j + up - down
pub record AtMost (d : ℕ → ℕ → ℕ) (i j up down : ℕ) : Type 0 where
  pub there : d i j < none
  pub bound : d i j + 2 * down ≤ base + 2 * up

pub record Below (d : ℕ → ℕ → ℕ) (i j up down : ℕ) : Type 0 where
  pub there : d i j < none
  pub bound : d i j + 2 * down < base + 2 * up

-- d holds i = j + c: i is tied to j at c
pub record TiedAt (d : ℕ → ℕ → ℕ) (i j : ℕ) (c : ℤ) : Type 0 where
  pub to : AtMost d i j (plus c) (minus c)
  pub back : AtMost d j i (minus c) (plus c)

-- whether two codes are a gap and the same one back, neither strict
abbrev pub tie : ℕ → ℕ → Bool
tie g h = eqb (g % 2) 0 && eqb (g + h) (base + base)

-- the gap at which i is tied to j, or none
abbrev pub tie_of : (ℕ → ℕ → ℕ) → ℕ → ℕ → ℕ
tie_of d i j = cond (tie (d i j) (d j i)) (d i j) none

-- new is d relaxed by the bound g from a to b
pub record RelaxedBy (N : ℕ) (d new : ℕ → ℕ → ℕ) (a b g : ℕ) : Type 0 where
  pub at : (i j : ℕ) → i < N → j < N → new i j ≡ tighter_of (d i j) (sum_of (sum_of (d i a) g) (d b j))
