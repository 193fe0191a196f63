-- What a reader of a text comes to. Nothing here need be believed.
-- Assumes nothing.
use Rattle.std.specs.Prelude.{ℕ, Result, Ok, Err}
use Rattle.slips.specs.declared.Slip.{Slip}
use Rattle.slips.specs.Says.{number_of, place_of}

-- something is read, up to its end; or the text is sent back
pub data Outcome : Type 0 where
  read : (end value : ℕ) → Outcome
  refused : (number place : ℕ) → Outcome

-- the place behind what is found, and its number; or what is wrong
abbrev pub Found : Type 0
Found = Result (ℕ × ℕ) Slip

abbrev pub found_says : Found → Outcome
found_says (Ok found) = read found.0 found.1
found_says (Err slip) = refused (number_of slip) (place_of slip)
