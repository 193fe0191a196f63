-- The bytes of a sheet from the memory of its terms and entries: keys and records as numbers of six bytes. Nothing here need be believed:
-- proofs/ shows that they are the sheet's own.
-- Assumes nothing.
use Rattle.std.specs.Prelude.{ℕ, ◌+◌, ◌<◌, ◌≡◌, cond, List, [], ◌∷◌, ◌++◌, ltb, pos, take, drop}
use Rattle.big.specs.Big.{bytes_of}
use Rattle.sheet.specs.Limits.{max_terms, sheet_length}
use Rattle.sheet.specs.Sheet.{Entry}
use Rattle.written.specs.Written.{in_row}
use Rattle.promise.specs.Answered.{over}
use Rattle.met.specs.Model.{count_in}
use Rattle.met.specs.Keys.{names}

-- a variable's record is 0 whatever its name
abbrev pub record_in : ℕ → ℕ
record_in key = cond (ltb key names) key 0

abbrev pub record_bytes : ℕ → List ℕ
record_bytes key = bytes_of 6 (record_in key)

-- c is 0, and the other fields fit their bytes
pub record EntryFits (e : Entry) : Type 0 where
  pub none : e.c ≡ pos 0
  pub left : e.a < 256
  pub right : e.b < 256

abbrev pub cells : List ℕ → (from count : ℕ) → List ℕ
cells m from count = take count (drop from m)

-- of the terms met, and of l entries
abbrev pub term_cells : List ℕ → List ℕ
term_cells m = cells m 0 (count_in m)

abbrev pub entry_cells : List ℕ → ℕ → List ℕ
entry_cells m l = cells m (max_terms + 1) l

-- length, version 1, T, L, 0
abbrev pub front : (T L : ℕ) → List ℕ
front T L = bytes_of 2 (sheet_length T L) ++ 1 ∷ T ∷ L ∷ 0 ∷ []

unfoldable pub draft : List ℕ → ℕ → List ℕ
draft m l = front (count_in m) l ++ in_row record_bytes (term_cells m) ++ in_row record_bytes (entry_cells m l)

-- the sheet is written, and the rest of the room is as it was
pub record Drafted (m : List ℕ) (l : ℕ) (old new : List ℕ) (size : ℕ) : Type 0 where
  pub size_is : size ≡ sheet_length (count_in m) l
  pub room-is : new ≡ over (draft m l) old
