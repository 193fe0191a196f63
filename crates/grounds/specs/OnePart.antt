-- One symbol, one part: no symbol stands in a sheet with one argument and with two. Nothing here need be believed: it says what row 16 leaves.
-- Assumes nothing.
use Rattle.std.specs.Prelude.{ℕ, ◌<◌, ◌≡◌}
use Rattle.sheet.specs.Sheet.{apply, apply2, Sheet, count_terms, term_at}

pub record OnePart (s : Sheet) : Type 0 where
  pub one-count : (i j symbol a c d : ℕ) → i < count_terms s → j < count_terms s → term_at s i ≡ apply symbol a → term_at s j ≡ apply2 symbol c d → ⊥
