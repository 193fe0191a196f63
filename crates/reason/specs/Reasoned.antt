-- What the call for reasons promises, from the bytes that it is lent to the bytes in the room.
-- Assumes nothing.
use Rattle.std.specs.Prelude.{ℕ, ◌≤◌, ◌<◌, ◌≡◌, List, length}
use Rattle.order.specs.First.{every, set_of}
use Rattle.sheet.specs.Limits.{room_needed}
use Rattle.sheet.specs.Decode.{sheet_of}
use Rattle.sheet.specs.Sheet.{Sheet, count_entries}
use Rattle.grounds.specs.Table.{refused, fine, refusal}
use Rattle.refusal.specs.Says.{number_of as refusal_number, place_of as refusal_place}
use Rattle.meaning.specs.Meaning.{Holds, Clashes, FirstClash}
use Rattle.answer.specs.Record.{ListWithin}
use Rattle.promise.specs.Answered.{over, SentBack}
use Rattle.reasons.specs.Step.{Step}
use Rattle.reasons.specs.Reason.{Reason, NothingSpare}
use Rattle.paper.specs.Record.{reason_record, reason_room}
use Rattle.reason.specs.declared.Reply.{Reply}
use Rattle.reason.specs.declared.Reply.TheVariants as reply

-- document 02's number and place of a reply
abbrev pub number_of : Reply → ℕ
number_of (reply.Written size) = 1
number_of reply.Short = 25
number_of reply.Holds = 26
number_of (reply.Refused why) = refusal_number why

abbrev pub place_of : Reply → ℕ
place_of (reply.Written size) = size
place_of reply.Short = 0
place_of reply.Holds = 0
place_of (reply.Refused why) = refusal_place why

-- 1: the record of the first list of entries that clash by themselves and of a reason for it, with no step to spare
pub record SaysWhy (s : Sheet) (old new : List ℕ) (number place : ℕ) : Type 0 where
  pub list : List ℕ
  pub first : FirstClash s (set_of list)
  pub within : ListWithin (count_entries s) list
  pub steps : List Step
  pub reason : Reason s list steps
  pub spare : NothingSpare s steps reason.last
  pub enough : reason_room ≤ length old
  pub fits : length (reason_record list steps) ≤ reason_room
  pub number_is : number ≡ 1
  pub place_is : place ≡ length (reason_record list steps)
  pub room-is : new ≡ over (reason_record list steps) old

-- 26 where the sheet holds; then 25 where the room is under the size that is always enough; both at place 0, the room as it was
pub data Told (s : Sheet) (old new : List ℕ) (number place : ℕ) : Type 0 where
  holds : Holds s every → SentBack 26 0 old new number place → Told s old new number place
  short : Clashes s every → length old < reason_room → SentBack 25 0 old new number place → Told s old new number place
  why : SaysWhy s old new number place → Told s old new number place

-- the promise: the sheet's own refusals first, 15 apart
pub record Reasoned (sheet old new : List ℕ) (number place : ℕ) : Type 0 where
  pub sent_back : (N P : ℕ) → refusal sheet room_needed ≡ refused N P → SentBack N P old new number place
  pub told : refusal sheet room_needed ≡ fine → Told (sheet_of sheet) old new number place
