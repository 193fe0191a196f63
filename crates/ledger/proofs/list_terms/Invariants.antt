-- `ledger::list_terms` meets its contract: the bounds of the terms before the counter are listed (proofs/Goes.antt).
-- Assumes nothing.
use Rattle.order.specs.First.{Set}
use Rattle.ledger.specs.Ledger.{Ledger}
use Rattle.ledger.proofs.list_terms.Given as goal

abbrev pub invariant-loop-i : goal.invariant-loop-i
invariant-loop-i l = (S : Set) → Ledger l.sheet S l.list l.names l.m l.i 0
