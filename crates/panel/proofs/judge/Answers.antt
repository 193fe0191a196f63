-- `panel::judge` meets its contract: the table decides, and then the meaning.
-- Assumes nothing.
use mathlib.Core.Path.{sym, ap, ◌∙◌}
use Rattle.refusal.specs.Says.{check_says}
use Rattle.grounds.proofs.Fine.{fine-formed}
use Rattle.grounds.proofs.Replies.{fine-sheet}
use Rattle.panel.proofs.Join.{answered-refused, answered-decided}
use Rattle.panel.proofs.judge.Goals as goal

pub of-requires : goal.of-requires
of-requires c = fine-formed _ (fine-sheet _ _ (sym c.check.ensures ∙ ap check_says c.in-Ok.is)).0

pub decide-requires : goal.decide-requires
decide-requires c = (fine-sheet _ _ (sym c.check.ensures ∙ ap check_says c.in-Ok.is)).1

pub returns-in-Err : goal.returns-in-Err
returns-in-Err c =
    answered-refused _ _ _ _ (sym c.check.ensures ∙ ap check_says c.in-Err.is)

pub returns-in-Ok : goal.returns-in-Ok
returns-in-Ok c =
    answered-decided _ _ _ _ _ (sym c.check.ensures ∙ ap check_says c.in-Ok.is) (rw c.of.ensures at c.decide.ensures)
