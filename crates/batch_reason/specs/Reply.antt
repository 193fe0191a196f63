-- The bytes with which a frame is answered: the number in one byte, the place in four, and the whole room, which was lent full of 0xAA.
-- Assumes nothing.
use Rattle.std.specs.Prelude.{ℕ, ◌+◌, List, get_or, take, drop, replicate}
use Rattle.big.specs.Big.{big_of}
use Rattle.paper.specs.Record.{reason_room}
use Rattle.reason.specs.Reasoned.{Reasoned}

-- before it is answered
abbrev pub blank : List ℕ
blank = replicate (5 + reason_room) 0xAA

pub record Reply (sheet : List ℕ) (size : ℕ) (bytes : List ℕ) : Type 0 where
  pub reasoned : Reasoned sheet (replicate size 0xAA) (take size (drop 5 bytes)) (get_or bytes 0 0) (big_of bytes 1 4)
