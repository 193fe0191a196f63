-- The parts of what is read, a sheet and behind it a reason record, and the answer to a record: the check's, for its list and its steps.
-- Assumes nothing.
use Rattle.std.specs.Prelude.{ℕ, min, max, ◌≡◌, List, length, take, drop}
use Rattle.big.specs.Big.{big_of}
use Rattle.recited.specs.Recited.{Recited, head_length, list_end}

-- so many bytes are the sheet's: as many as it states, but the two that state it in any case, and no more than there are
abbrev pub SheetPart : List ℕ → ℕ → Type 0
SheetPart b n = n ≡ min (length b) (max 2 (big_of b 0 2))

pub record Checked (sheet r : List ℕ) (number place : ℕ) : Type 0 where
  pub recited : Recited sheet (take (big_of r 6 2) (drop head_length r)) (drop (list_end r) r) number place
