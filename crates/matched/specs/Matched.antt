-- Two terms of the same input that a table doesn't tie.
-- Assumes nothing.
use Rattle.std.specs.Prelude.{ℕ, ◌<◌, pos, Option, Some, None}
use Rattle.closure.specs.Closed.{TiedAt}
use Rattle.sheet.specs.declared.TermNumber.{TermNumber}
use Rattle.sheet.specs.Sheet.{Sheet, count_terms}
use Rattle.settled.specs.Settled.{Saturated}
use Rattle.joined.specs.Joined.{JoinedAt}

-- the table gives i and j the same input, and doesn't tie them at 0
pub record Untied (s : Sheet) (d : ℕ → ℕ → ℕ) (i j : ℕ) : Type 0 where
  pub joined : JoinedAt s d i j
  pub untied : TiedAt d i j (pos 0) → ⊥

-- such a j below i, or there is none
abbrev pub Partner : Sheet → (ℕ → ℕ → ℕ) → ℕ → Option TermNumber → Type 0
Partner s d i (Some j) = (j.0 < i) × Untied s d i j.0
Partner s d i None = (j : ℕ) → j < i → Untied s d i j → ⊥

-- a term that has a partner, and the partner, or the table passes equalities on
abbrev pub First : Sheet → (ℕ → ℕ → ℕ) → Option (TermNumber × TermNumber) → Type 0
First s d (Some p) = (p.0.0 < count_terms s) × (p.1.0 < p.0.0) × Untied s d p.0.0 p.1.0
First s d None = Saturated s d
