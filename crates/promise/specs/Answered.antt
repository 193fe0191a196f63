-- What the call promises, from the bytes that it is lent to the bytes in the answer room.
-- Assumes nothing.
use Rattle.std.specs.Prelude.{ℕ, ◌≡◌, ◌⊎◌, List, ◌++◌, ℤ, length, drop}
use Rattle.order.specs.First.{every, set_of}
use Rattle.sheet.specs.Decode.{sheet_of}
use Rattle.sheet.specs.Sheet.{Sheet, count_entries}
use Rattle.meaning.specs.Meaning.{Meet, FirstClash}
use Rattle.grounds.specs.Table.{refusal, fine, refused}
use Rattle.refusal.specs.Says.{number_of as refusal_number, place_of as refusal_place}
use Rattle.answer.specs.Record.{listed, holds_record, clashes_record, ValuesWithin, ListWithin}
use Rattle.promise.specs.declared.Answer.{Answer}
use Rattle.promise.specs.declared.Answer.TheVariants.{Holds, Clashes, Refused}

-- document 01's number and place of an answer
abbrev pub number_of : Answer → ℕ
number_of (Holds size) = 0
number_of (Clashes size) = 1
number_of (Refused why) = refusal_number why

abbrev pub place_of : Answer → ℕ
place_of (Holds size) = size
place_of (Clashes size) = size
place_of (Refused why) = refusal_place why

-- the room's bytes after: the record, and past it what they held
abbrev pub over : (answer old : List ℕ) → List ℕ
over answer old = answer ++ drop (length answer) old

-- sent back: the table's number and place, and the whole room as it was
pub record SentBack (N P : ℕ) (old new : List ℕ) (number place : ℕ) : Type 0 where
  pub number_is : number ≡ N
  pub place_is : place ≡ P
  pub room-is : new ≡ old

-- 0: values that meet every term and entry, and their record
pub record SaysHolds (s : Sheet) (old new : List ℕ) (number place : ℕ) : Type 0 where
  pub D : ℕ
  pub n : ℕ → ℤ
  pub meet : Meet s every D n
  pub within : ValuesWithin D (listed s n)
  pub number_is : number ≡ 0
  pub place_is : place ≡ length (holds_record D (listed s n))
  pub room-is : new ≡ over (holds_record D (listed s n)) old

-- 1: the first list of entries that clash by themselves, and its record
pub record SaysClashes (s : Sheet) (old new : List ℕ) (number place : ℕ) : Type 0 where
  pub list : List ℕ
  pub first : FirstClash s (set_of list)
  pub within : ListWithin (count_entries s) list
  pub number_is : number ≡ 1
  pub place_is : place ≡ length (clashes_record list)
  pub room-is : new ≡ over (clashes_record list) old

-- one of the two: the meaning decides which
abbrev pub Decided : Sheet → (old new : List ℕ) (number place : ℕ) → Type 0
Decided s old new number place = SaysHolds s old new number place ⊎ SaysClashes s old new number place

-- the promise: the table decides whether the sheet is sent back
pub record Answered (sheet old new : List ℕ) (number place : ℕ) : Type 0 where
  pub sent_back : (N P : ℕ) → refusal sheet (length old) ≡ refused N P → SentBack N P old new number place
  pub judged : refusal sheet (length old) ≡ fine → Decided (sheet_of sheet) old new number place
