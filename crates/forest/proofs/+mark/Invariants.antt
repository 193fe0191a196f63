-- `forest::mark` meets its contract: the number of ties falls at each call.
-- Assumes nothing.
use Rattle.forest.proofs.+mark.Given as goal

abbrev pub decreases-mark : goal.decreases-mark
decreases-mark l = l.t
