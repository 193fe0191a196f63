-- What is promised of the values that are written: they meet the meaning, they are within the answer's limits, and their record stands
-- in the first bytes of the room.
-- Assumes nothing.
use Rattle.std.specs.Prelude.{ℕ, ◌+◌, ◌*◌, ◌≤◌, ◌≡◌, List, ℤ, get_or, take}
use Rattle.order.specs.First.{Set}
use Rattle.sheet.specs.Sheet.{Sheet, count_terms}
use Rattle.meaning.specs.Meaning.{Meet}
use Rattle.answer.specs.Record.{head_length, listed, holds_record, ValuesWithin}
use Rattle.settled.specs.Settled.{Settled}

-- the length of the record
abbrev pub record_length : Sheet → ℕ
record_length s = head_length + 8 * count_terms s

pub record Written (s : Sheet) (d : ℕ → ℕ → ℕ) (old new : List ℕ) : Type 0 where
  pub D : ℕ
  pub n : ℕ → ℤ
  -- for whichever set of entries the table d was settled
  pub meets : (S : Set) → Settled s S d → Meet s S D n
  pub within : ValuesWithin D (listed s n)
  pub bytes : take (record_length s) new ≡ holds_record D (listed s n)
  pub kept : (k : ℕ) → record_length s ≤ k → get_or new k 0 ≡ get_or old k 0
