-- The bytes with which a frame is answered: the number in one byte, the place in two, and the whole room, which was lent full of 0xAA.
-- Assumes nothing.
use Rattle.std.specs.Prelude.{ℕ, ◌+◌, List, get_or, drop, replicate}
use Rattle.big.specs.Big.{big_of}
use Rattle.sheet.specs.Limits.{room_needed}
use Rattle.promise.specs.Answered.{Answered}

-- before it is answered
abbrev pub blank : List ℕ
blank = replicate (3 + room_needed) 0xAA

pub record Reply (sheet bytes : List ℕ) : Type 0 where
  pub answered : Answered sheet (replicate room_needed 0xAA) (drop 3 bytes) (get_or bytes 0 0) (big_of bytes 1 2)
