-- The paper's number and place for each case of the code's enums.
-- Assumes nothing.
use Rattle.std.specs.Prelude.{ℕ, Result, Ok, Err}
use Rattle.refusal.specs.declared.Refusal.{Refusal}
use Rattle.refusal.specs.declared.Refusal.TheVariants.{Length, Version, Shape, WrongTerm, WrongEntry, Room}
use Rattle.grounds.specs.Table.{Reply, fine, refused}

abbrev pub number_of : Refusal → ℕ
number_of Length = 10
number_of Version = 11
number_of Shape = 12
number_of (WrongTerm i) = 13
number_of (WrongEntry e) = 14
number_of Room = 15

abbrev pub place_of : Refusal → ℕ
place_of Length = 0
place_of Version = 0
place_of Shape = 0
place_of (WrongTerm i) = i.0
place_of (WrongEntry e) = e.0
place_of Room = 0

abbrev pub check_says : Result Unit Refusal → Reply
check_says (Ok _) = fine
check_says (Err why) = refused (number_of why) (place_of why)
