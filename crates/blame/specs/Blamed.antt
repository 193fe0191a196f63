-- What is promised of the list that is written: it is the first that clashes, and its record stands in the first bytes of the room.
-- Assumes nothing.
use Rattle.std.specs.Prelude.{ℕ, ◌+◌, ◌≤◌, ◌≡◌, List, length, get_or, take}
use Rattle.order.specs.First.{set_of}
use Rattle.sheet.specs.Sheet.{Sheet, count_entries}
use Rattle.meaning.specs.Meaning.{FirstClash}
use Rattle.answer.specs.Record.{clashes_record, ListWithin}

pub record Blamed (s : Sheet) (old new : List ℕ) (size : ℕ) : Type 0 where
  pub list : List ℕ
  pub first : FirstClash s (set_of list)
  pub within : ListWithin (count_entries s) list
  pub size_is : size ≡ 8 + length list
  pub bytes : take size new ≡ clashes_record list
  pub kept : (k : ℕ) → size ≤ k → get_or new k 0 ≡ get_or old k 0
