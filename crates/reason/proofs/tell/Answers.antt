-- `reason::tell` meets its contract: values that meet the sheet show that it holds, and else the table decides.
-- Assumes nothing.
use Rattle.blame.proofs.Blame.{all_hold}
use Rattle.reason.proofs.Join.{told-holds}
use Rattle.reason.proofs.tell.Goals as goal

pub returns-then-values : goal.returns-then-values
returns-then-values c =
    let met = c.values.ensures.met c.if-values.true in
    told-holds _ _ (all_hold c.formed.ensures (record { D = _; n = _; meet = met.meet }))
