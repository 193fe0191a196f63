-- `cells::relax_row` meets its contract: the cells before the counter are relaxed and no other is touched, or nothing would change.
-- Assumes nothing.
use Rattle.cells.specs.Cells.{RowRelaxed}
use Rattle.cells.proofs.relax_row.Given as goal

abbrev pub invariant-loop-j : goal.invariant-loop-j
invariant-loop-j l = RowRelaxed l.initial.d l.d l.row l.i l.via.0 l.from l.j
