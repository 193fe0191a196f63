-- The limits of a sheet, which stand here and in the code's constants of the same names.
-- Assumes nothing.
use Rattle.std.specs.Prelude.{ℕ, ◌+◌, ◌*◌}

-- T is 1 to this
abbrev pub max_terms : ℕ
max_terms = 128

-- L is 0 to this
abbrev pub max_entries : ℕ
max_entries = 128

-- the length of a sheet of T terms and L entries
abbrev pub sheet_length : ℕ → ℕ → ℕ
sheet_length T L = 6 + 6 * T + 6 * L

-- the answer room that every sheet's answer fits in: the longest record, of values
abbrev pub room_needed : ℕ
room_needed = 8 + 8 * max_terms
