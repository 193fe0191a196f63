-- When a table says that two terms have the same input.
-- Assumes nothing.
use Rattle.std.specs.Prelude.{ℕ, pos}
use Rattle.closure.specs.Closed.{TiedAt}
use Rattle.sheet.specs.Sheet.{Term, Sheet, term_at}
use Rattle.meaning.specs.Meaning.{SameInput}

-- the table says that the two terms have the same input
abbrev pub Joined : (ℕ → ℕ → ℕ) → Term → Term → Type 0
Joined d t u = SameInput (λ a b. TiedAt d a b (pos 0)) t u

-- so for terms i and j of a sheet
abbrev pub JoinedAt : Sheet → (ℕ → ℕ → ℕ) → ℕ → ℕ → Type 0
JoinedAt s d i j = Joined d (term_at s i) (term_at s j)
