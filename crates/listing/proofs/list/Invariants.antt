-- `listing::list` meets its contract: the k bytes from the place on list the marked entries below x, and the rest is as it was.
-- Assumes nothing.
use Rattle.std.proofs.Common.{◌≤◌, drop}
use Rattle.big.specs.Big.{Kept}
use Rattle.order.specs.First.{marked, Listed}
use Rattle.listing.proofs.list.Given as goal

abbrev pub invariant-loop-x : goal.invariant-loop-x
invariant-loop-x l = record { count : l.k ≤ l.x; listed : Listed l.x (marked l.marks) (drop l.at l.room) l.k; kept : Kept l.initial.room l.room l.at l.k }
