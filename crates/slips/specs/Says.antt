-- Document 02's number and place of a refusal.
-- Assumes nothing.
use Rattle.std.specs.Prelude.{ℕ}
use Rattle.slips.specs.declared.Slip.{Slip}
use Rattle.slips.specs.declared.Slip.TheVariants.{Form, Deep, Range, Full, Room}

abbrev pub number_of : Slip → ℕ
number_of (Form p) = 20
number_of (Deep p) = 21
number_of (Range p) = 22
number_of (Full p) = 23
number_of Room = 24

abbrev pub place_of : Slip → ℕ
place_of (Form p) = p
place_of (Deep p) = p
place_of (Range p) = p
place_of (Full p) = p
place_of Room = 0
