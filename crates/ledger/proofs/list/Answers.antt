-- `ledger::list` meets its contract: the entries' bounds come behind the terms'.
-- Assumes nothing.
use Rattle.ledger.proofs.list.Goals as goal

pub list_entries-requires-clause-ledger : goal.list_entries-requires-clause-ledger
list_entries-requires-clause-ledger c = c.list_terms-m.ensures _
