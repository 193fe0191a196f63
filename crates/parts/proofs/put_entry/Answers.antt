-- `parts::put_entry` meets its contract: the bounds of a ≤ entry and of a < entry (steps, proofs/Parts.antt).
-- Assumes nothing.
use Rattle.steps.proofs.Parts.{at-most-put, less-put}
use Rattle.parts.proofs.put_entry.Goals as goal

pub returns-in-AtMost : goal.returns-in-AtMost
returns-in-AtMost c =
    rw c.in-AtMost.is
    (at-most-put _ c.requires.d_len.2 c.requires.d_len.3 c.requires.table c.to.ensures c.insert.ensures)

pub returns-in-Less : goal.returns-in-Less
returns-in-Less c =
    rw c.in-Less.is
    (less-put _ c.requires.d_len.2 c.requires.d_len.3 c.requires.table c.under.ensures c.insert-in-Less.ensures)
