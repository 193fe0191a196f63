-- When the panel sends a sheet back: document 01's table, row by row, from bytes and the length of the answer room to a number and a place.
-- Assumes nothing.
use Rattle.std.specs.Prelude.{ℕ, Bool, true, false, List, ltb}
use Rattle.sheet.specs.Limits.{room_needed}
use Rattle.sheet.specs.Decode.{stated_terms, stated_entries}
use Rattle.grounds.specs.Rows.{wrong_length, wrong_version, wrong_shape, wrong_term_of, wrong_entry_of, lowest}

-- sent back with a number and a place, or not
pub data Reply : Type 0 where
  fine : Reply
  refused : (number place : ℕ) → Reply

-- checked in that order; the first that applies is given
infixr 5 ◌then◌
abbrev pub ◌then◌ : Reply → Reply → Reply
fine then r = r
refused number place then r = refused number place

abbrev pub given : Bool → (number place : ℕ) → Reply
given true number place = refused number place
given false number place = fine

abbrev pub given_lowest : ℕ → (ℕ → Bool) → (number : ℕ) → Reply
given_lowest n wrong number = given (ltb (lowest n wrong) n) number (lowest n wrong)

-- the sheet's own refusals
unfoldable pub sheet_refusal : List ℕ → Reply
sheet_refusal b =
    given (wrong_length b) 10 0 then
    given (wrong_version b) 11 0 then
    given (wrong_shape b) 12 0 then
    given_lowest (stated_terms b) (wrong_term_of b) 13 then
    given_lowest (stated_entries b) (wrong_entry_of b) 14

-- and, last, an answer room under what is needed
unfoldable pub refusal : List ℕ → ℕ → Reply
refusal b room = sheet_refusal b then given (ltb room room_needed) 15 0
