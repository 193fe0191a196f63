-- `ledger::list_entry` meets its contract, relation by relation.
-- Assumes nothing.
use Rattle.std.proofs.Common.{sym}
use Rattle.jotted.proofs.Places.{weak-to, strict-to}
use Rattle.ledger.proofs.Put.{nothing_put}
use Rattle.ledger.proofs.list_entry.Goals as goal

pub returns-in-Unequal : goal.returns-in-Unequal
returns-in-Unequal c = rw c.in-Unequal.is nothing_put

pub returns-in-AtMost : goal.returns-in-AtMost
returns-in-AtMost c =
    rw (c.in-AtMost.is, sym (weak-to _ _ c.to.ensures)) c.single.ensures

pub returns-in-Less : goal.returns-in-Less
returns-in-Less c =
    rw (c.in-Less.is, sym (strict-to _ _ c.under.ensures)) c.single-in-Less.ensures
