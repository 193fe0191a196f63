-- Document 02's numbers, request 2, as the limits give them: the longest sheet has 1,542 bytes, and an answer room of 1,032 is enough.
-- Assumes nothing.
use mathlib.Core.Path.{◌≡◌, refl}
use Rattle.sheet.specs.Limits.{max_terms, max_entries, sheet_length, room_needed}

pub longest : sheet_length max_terms max_entries ≡ 1542
longest = refl

pub room : room_needed ≡ 1032
room = refl
