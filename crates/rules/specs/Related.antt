-- The meaning's four relations, of natural numbers.
-- Assumes nothing.
use Rattle.std.specs.Prelude.{ℕ, ◌≤◌, ◌<◌, ◌≡◌}
use Rattle.sheet.specs.Sheet.{Relation, equal, unequal, at_most, less}

abbrev pub Related : ℕ → Relation → ℕ → Type 0
Related x equal y = x ≡ y
Related x unequal y = x ≡ y → ⊥
Related x at_most y = x ≤ y
Related x less y = x < y
