-- One step of filling a table: what it leaves, and what its refusal shows. A step is told by Q, what it asks of levels, and P, what the
-- table then holds.
-- Assumes nothing.
use Rattle.std.specs.Prelude.{ℕ, ◌+◌, ◌*◌, ◌≤◌, ◌<◌, ◌≡◌, Bool, true, false, List, ℤ}
use Rattle.kind.specs.Code.{none, base, Within}
use Rattle.kind.specs.Meets.{Meets}
use Rattle.closure.specs.Table.{Table, step}
use Rattle.cells.specs.Cells.{cell, Kept}

-- the levels v i / D meet each gap of the table
pub record Met (n D : ℕ) (d : ℕ → ℕ → ℕ) (v : ℕ → ℤ) : Type 0 where
  pub met : (i j : ℕ) → i < n → j < n → Meets D (d i j) (v i) (v j)

-- the table is tighter, and P of it; whatever met it and has Q still does
pub record Went (n : ℕ) (Q : ℕ → (ℕ → ℤ) → Type 0) (P : (ℕ → ℕ → ℕ) → Type 0) (old new : List ℕ) : Type 0 where
  pub table : Table n (cell new)
  pub tighter : (i j : ℕ) → i < n → j < n → cell new i j ≤ cell old i j
  pub met : (D : ℕ) (v : ℕ → ℤ) → 1 ≤ D → Met n D (cell old) v → Q D v → Met n D (cell new) v
  pub there : P (cell new)

-- nothing that met the table has Q
abbrev pub Refuted : ℕ → (ℕ → (ℕ → ℤ) → Type 0) → List ℕ → Type 0
Refuted n Q old = (D : ℕ) (v : ℕ → ℤ) → 1 ≤ D → Met n D (cell old) v → Q D v → ⊥

pub record Stepped (n : ℕ) (Q : ℕ → (ℕ → ℤ) → Type 0) (P : (ℕ → ℕ → ℕ) → Type 0) (old new : List ℕ) (answer : Bool) : Type 0 where
  pub went : answer ≡ true → Went n Q P old new
  pub refuted : answer ≡ false → Refuted n Q old
  pub kept : Kept n old new

-- a code of the bound up - down, not strict or strict, of a sheet's size
pub record Weak (g up down : ℕ) : Type 0 where
  pub there : g < none
  pub near : Within step g
  pub code : g + 2 * down ≡ base + 2 * up

pub record Strict (g up down : ℕ) : Type 0 where
  pub there : g < none
  pub near : Within step g
  pub code : g + 2 * down + 1 ≡ base + 2 * up
