-- A reason as it is written: a list of steps, and walks as lists of bounds. The points are the terms by their numbers, and T for the zero
-- level; steps count from 0.
-- Assumes nothing.
use Rattle.std.specs.Prelude.{ℕ, List, [], ◌++◌, get_or, ℤ}

-- what a walk goes over, forwards or backwards
pub data Bound : Type 0 where
  -- an entry
  entry entry_back : (e : ℕ) → Bound
  -- a number or a shift
  term term_back : (i : ℕ) → Bound
  -- an earlier tie, by the number of its step
  tie tie_back : (t : ℕ) → Bound

pub data Step : Type 0 where
  -- a tie, a = b + c, from two walks: one from a to b, one from b to a
  by_walks : (a b : ℕ) (c : ℤ) (there back : List Bound) → Step
  -- a tie, a = b, of two applications
  by_functions : (a b : ℕ) → Step
  -- closing: a walk from a point to itself
  closing_walk : (a : ℕ) (round : List Bound) → Step
  -- closing: a ≠ entry
  closing_entry : (e : ℕ) → Step

-- the step at a number below that of all steps
abbrev pub step_at : List Step → ℕ → Step
step_at steps n = get_or steps n (closing_entry 0)

-- the bounds of a step's walks
abbrev pub walks_of : Step → List Bound
walks_of (by_walks a b c there back) = there ++ back
walks_of (by_functions a b) = []
walks_of (closing_walk a round) = round
walks_of (closing_entry e) = []
