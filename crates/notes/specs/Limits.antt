-- How much the search has room for, after the sheet's limits; it stands here and in the code's constants.
-- Assumes nothing.
use Rattle.std.specs.Prelude.{ℕ, ◌+◌, ◌*◌, ◌/◌}
use Rattle.sheet.specs.Limits.{max_terms, max_entries}

-- points: one for each term and the zero level fit, and what is left of any number below it is a place
abbrev pub places : ℕ
places = 2 * max_terms

-- the search's memory as one array: five numbers for each place, then the applications, their inputs, and the bounds
abbrev pub applications_at : ℕ
applications_at = 5 * places

abbrev pub inputs_at : ℕ
inputs_at = applications_at + max_terms

abbrev pub bounds_at : ℕ
bounds_at = inputs_at + max_terms

abbrev pub memory : ℕ
memory = bounds_at + 2 * (max_terms + max_entries)

-- slacks are less than this
abbrev pub slacks : ℕ
slacks = 1024

-- the denominator: the largest that an answer may have and that is a multiple of it
abbrev pub denominator : ℕ
denominator = 65535 / slacks * slacks
