-- `ties::broken_at` meets its contract: an entry of the set that isn't a ≠ entry isn't broken (proofs/Entries.antt).
-- Assumes nothing.
use borrow.Author.Tests.{not-false}
use Rattle.meaning.proofs.Decides.{rest}
use Rattle.ties.proofs.Entries.{other-told}
use Rattle.ties.proofs.broken_at.Goals as goal

pub returns-in_default : goal.returns-in_default
returns-in_default c =
    rest (not-false _ c.if-not-set-e.false-raw) (rw (← c.entry_at-entry.ensures) (other-told c.entry_at-entry.result c.in_default.not-Unequal))
