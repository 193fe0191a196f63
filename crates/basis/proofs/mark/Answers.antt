-- `basis::mark` meets its contract: the entries of both rows are marked, and that of a step of kind 3 (proofs/Own.antt).
-- Assumes nothing.
use native.Mathlib.Omega.{arith}
use Rattle.basis.proofs.Own.{own-walks, own-entry}
use Rattle.basis.proofs.mark.Goals as goal

pub returns-then-s-eq3 : goal.returns-then-s-eq3
returns-then-s-eq3 c =
    own-entry c.requires.1 c.mark_walk.ensures c.mark_walk-2.ensures (omega (arith, c.if-s-eq3.true)) (omega arith)

pub returns-else-s-eq3 : goal.returns-else-s-eq3
returns-else-s-eq3 c = own-walks c.requires.1 c.mark_walk.ensures c.mark_walk-2.ensures c.if-s-eq3.false
