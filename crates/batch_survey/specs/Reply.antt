-- The bytes with which a frame is answered: the check's number in one byte and its place in four.
-- Assumes nothing.
use Rattle.std.specs.Prelude.{ℕ, List, get_or}
use Rattle.big.specs.Big.{big_of}
use Rattle.recited.specs.Recited.{Recited}

-- the most steps of a frame
abbrev pub most_steps : ℕ
most_steps = 256

pub record Reply (sheet list steps bytes : List ℕ) : Type 0 where
  pub recited : Recited sheet list steps (get_or bytes 0 0) (big_of bytes 1 4)
