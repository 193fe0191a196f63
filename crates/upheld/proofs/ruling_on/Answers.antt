-- `upheld::ruling_on` meets its contract, kind by kind (proofs/Rules.antt).
-- Assumes nothing.
use native.Mathlib.Omega.{arith}
use Rattle.upheld.proofs.Rules.{tie-ruled, closing-ruled}
use Rattle.upheld.proofs.ruling_on.Goals as goal

pub returns-in-0 : goal.returns-in-0
returns-in-0 c = λ steps n K. rw c.ruled.ensures (tie-ruled K c.args.s _ (omega arith) c.by_walks.ensures)

pub returns-in-1 : goal.returns-in-1
returns-in-1 c = λ steps n K. rw c.ruled-in-1.ensures (tie-ruled K c.args.s _ (omega arith) c.by_functions.ensures)

pub returns-in-2 : goal.returns-in-2
returns-in-2 c = λ steps n K. rw c.ruled-in-2.ensures (closing-ruled K c.args.s _ (omega arith) (c.closing_walk.ensures _))

pub returns-in-3 : goal.returns-in-3
returns-in-3 c = λ steps n K. rw c.ruled-in-3.ensures (closing-ruled K c.args.s _ (omega arith) c.closing_entry.ensures)
