-- `blame::write` meets its contract: with every entry marked it clashes, and the list that is left is the first (proofs/Blame.antt).
-- Assumes nothing.
use Rattle.order.specs.First.{every}
use Rattle.meaning.proofs.Meaning.{clashes-upward}
use Rattle.blame.proofs.Blame.{all-marked, blamed}
use Rattle.blame.proofs.write.Goals as goal

pub leave_out-requires-clause-clashes : goal.leave_out-requires-clause-clashes
leave_out-requires-clause-clashes c =
    let wf = c.count_entries-entries.ensures.formed in
    (clashes-upward _ every _ (λ x l h. all-marked wf x l) c.requires.clashes.0, λ x l. all-marked wf x l)

pub returns-clause-blamed : goal.returns-clause-blamed
returns-clause-blamed c =
    blamed c.count_entries-entries.ensures.formed c.leave_out.ensures.first (rw c.count_entries-entries.ensures.count.0 at c.clashes.ensures)
