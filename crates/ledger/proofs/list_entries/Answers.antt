-- `ledger::list_entries` meets its contract: behind the terms' bounds, those of the marked entries before the counter are listed.
-- Assumes nothing.
use Rattle.std.proofs.Common.{arith}
use Rattle.ledger.proofs.Goes.{entry_more, entry-skipped}
use Rattle.ledger.proofs.list_entries.Goals as goal
use Rattle.ledger.proofs.list_entries.Goals.{then-set-e, else-set-e}

pub loop-e-preserved : goal.loop-e-preserved
loop-e-preserved c =
    let L = c.loop-e.invariant in
    elim c.if-set-e.branch [
      | then-set-e w ↦ rw (w.list-is, w.names-is, w.m-is)
          (entry_more L (omega arith) (omega arith) c.count_entries-l.ensures.formed (omega arith) w.if-set-e.true w.entry_at.ensures
          w.list_entry-m.ensures)
      | else-set-e w ↦ rw (w.list-is, w.names-is, w.m-is) (entry-skipped w.if-set-e.false L)
    ]
