-- `table::relax_rows` meets its contract: the rows before the counter are relaxed (proofs/Rows.antt).
-- Assumes nothing.
use Rattle.table.specs.Inserted.{Rows}
use Rattle.table.proofs.relax_rows.Given as goal

abbrev pub invariant-loop-i : goal.invariant-loop-i
invariant-loop-i l = Rows l.n l.initial.d l.d l.a l.b l.g.0 l.i
