-- What the call for typed sheets promises other languages: number and place in one number of eight bytes.
-- Assumes nothing.
use Rattle.std.specs.Prelude.{ℕ, ◌/◌, ◌%◌, ◌≤◌, ◌<◌, ◌≡◌, List, length}
use Rattle.transcript.specs.Transcribed.{Transcribed}

-- 2^32: a place below it fits the low half
abbrev pub places : ℕ
places = 4294967296

-- a text that is too long for its places to fit gets 2^64 - 1, which is no other answer
pub record Called (text old new : List ℕ) (answer : ℕ) : Type 0 where
  pub read : length text < places → Transcribed text old new (answer / places) (answer % places)
  pub answer-is : places ≤ length text → answer ≡ 18446744073709551615
  pub room-is : places ≤ length text → new ≡ old
