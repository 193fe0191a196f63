-- `ledger::list_entries` meets its contract: behind the terms' bounds, those of the marked entries before the counter are listed.
-- Assumes nothing.
use Rattle.order.specs.First.{marked}
use Rattle.sheet.specs.Sheet.{count_terms}
use Rattle.ledger.specs.Ledger.{Ledger}
use Rattle.ledger.proofs.list_entries.Given as goal

abbrev pub invariant-loop-e : goal.invariant-loop-e
invariant-loop-e l = Ledger l.sheet (marked l.set) l.list l.names l.m (count_terms l.sheet) l.e
