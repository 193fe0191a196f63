-- `recited::bounds` meets its contract: bound by bound (proofs/Rows.antt).
-- Assumes nothing.
use Rattle.recited.proofs.Rows.{Filled}
use Rattle.recited.proofs.bounds.Given as goal

abbrev pub invariant-loop-x : goal.invariant-loop-x
invariant-loop-x l = Filled l.bytes l.at l.count l.x l.row
