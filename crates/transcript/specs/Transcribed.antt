-- What the call promises, from the bytes of a typed text to the bytes in the room.
-- Assumes nothing.
use Rattle.std.specs.Prelude.{ℕ, ◌≤◌, ◌<◌, ◌≡◌, List, length, Result, Ok, Err}
use Rattle.sheet.specs.Limits.{max_terms, max_entries, sheet_length}
use Rattle.text.specs.Text.{Line}
use Rattle.text.specs.Print.{print}
use Rattle.written.specs.Written.{sheet_bytes}
use Rattle.numbered.specs.Numbered.{sheet_of}
use Rattle.slips.specs.declared.Slip.{Slip as Code-Slip}
use Rattle.slips.specs.Slips.{Slip, FirstSlip}
use Rattle.slips.specs.Says.{number_of as slip_number, place_of as slip_place}
use Rattle.promise.specs.Answered.{over, SentBack}

-- the length of the sheet in the room, or what is wrong
abbrev pub Typed : Type 0
Typed = Result ℕ Code-Slip

-- document 02's number and place of an answer
abbrev pub number_of : Typed → ℕ
number_of (Ok size) = 0
number_of (Err slip) = slip_number slip

abbrev pub place_of : Typed → ℕ
place_of (Ok size) = size
place_of (Err slip) = slip_place slip

-- the room that every sheet fits in
abbrev pub sheet_room : ℕ
sheet_room = sheet_length max_terms max_entries

-- 0: the text is the print of these lines, and their sheet stands in the room, past it what was there
pub record SaysSheet (text old new : List ℕ) (number place : ℕ) : Type 0 where
  pub lines : List Line
  pub same : print lines ≡ text
  pub number_is : number ≡ 0
  pub place_is : place ≡ length (sheet_bytes (sheet_of lines))
  pub room-is : new ≡ over (sheet_bytes (sheet_of lines)) old

-- the promise: a room that is too short is looked for first, then the first slip, and a text without a slip is transcribed
pub record Transcribed (text old new : List ℕ) (number place : ℕ) : Type 0 where
  pub no_room : length old < sheet_room → SentBack 24 0 old new number place
  pub sent_back : sheet_room ≤ length old → (N P : ℕ) → FirstSlip text N P → SentBack N P old new number place
  pub transcribed : sheet_room ≤ length old → ((N P : ℕ) → Slip text N P → ⊥) → SaysSheet text old new number place
