-- The bytes with which a frame is answered: the number in one byte, the place in four, and the whole room, which was lent full of 0xAA.
-- Assumes nothing.
use Rattle.std.specs.Prelude.{ℕ, ◌+◌, List, get_or, take, drop, replicate}
use Rattle.big.specs.Big.{big_of}
use Rattle.transcript.specs.Transcribed.{Transcribed}

-- the largest room, and the longest text
abbrev pub most_room : ℕ
most_room = 2048

abbrev pub most_text : ℕ
most_text = 65536

-- before it is answered
abbrev pub blank : List ℕ
blank = replicate (5 + most_room) 0xAA

pub record Reply (text : List ℕ) (size : ℕ) (bytes : List ℕ) : Type 0 where
  pub transcribed : Transcribed text (replicate size 0xAA) (take size (drop 5 bytes)) (get_or bytes 0 0) (big_of bytes 1 4)
