-- A table whose cells are totals of walks over given bounds E, and walks of few bounds.
-- Assumes nothing.
use Rattle.std.specs.Prelude.{ℕ, ◌+◌, ◌≤◌, ◌<◌, List, ◌⊎◌, length}
use Rattle.kind.specs.Code.{none}
use Rattle.kind.specs.Kind.{Kind, kind_of}
use Rattle.closure.specs.Walk.{Walk, Reached, Among}
use Rattle.closure.specs.Table.{Held, Table}

-- each cell has no gap, or one that a walk over E comes to, or to less
pub record Borne (N : ℕ) (E : ℕ → ℕ → Kind → Type 0) (d : ℕ → ℕ → ℕ) : Type 0 where
  pub walked : (i j : ℕ) → i < N → j < N → (none ≤ d i j) ⊎ Reached E i j (kind_of (d i j))

-- a table that holds all of E, and nothing but what E adds up to
pub record Exact (N : ℕ) (E : ℕ → ℕ → Kind → Type 0) (d : ℕ → ℕ → ℕ) : Type 0 where
  pub table : Table N d
  pub held : Among E (Held N d)
  pub borne : Borne N E d

-- the bounds E with one more from a to b
pub data With (E : ℕ → ℕ → Kind → Type 0) (a b : ℕ) (g : Kind) : ℕ → ℕ → Kind → Type 0 where
  old : {i j : ℕ} {h : Kind} → E i j h → With E a b g i j h
  new : With E a b g a b g

-- a walk over E from i to k, with at most m bounds and a total of t
pub record Few (E : ℕ → ℕ → Kind → Type 0) (m i k : ℕ) (t : Kind) : Type 0 where
  pub points : List ℕ
  pub walk : Walk E i k t points
  pub few : length points ≤ m + 1
