-- `reason::reason` meets its contract: the table decides, the room for an answer apart, and then the meaning.
-- Assumes nothing.
use mathlib.Core.Path.{sym, ap, ◌∙◌}
use Rattle.refusal.specs.Says.{check_says}
use Rattle.grounds.proofs.Fine.{fine-formed}
use Rattle.grounds.proofs.Replies.{fine-sheet}
use Rattle.reason.proofs.Join.{reasoned-refused, reasoned-told}
use Rattle.reason.proofs.reason.Goals as goal

pub of-requires : goal.of-requires
of-requires c =
    fine-formed _ (fine-sheet _ _ (sym c.check.ensures ∙ ap check_says c.in-Ok.is)).0

pub returns-in-Err : goal.returns-in-Err
returns-in-Err c =
    reasoned-refused _ _ _ _ (sym c.check.ensures ∙ ap check_says c.in-Err.is)

pub returns-in-Ok : goal.returns-in-Ok
returns-in-Ok c =
    reasoned-told _ _ _ _ _ (sym c.check.ensures ∙ ap check_says c.in-Ok.is) (rw c.of.ensures at c.tell.ensures)
