-- `meets::entries` meets its contract: the entries of the set before the counter are true.
-- Assumes nothing.
use mathlib.Core.Path.{sym, ◌∙◌}
use mathlib.Core.Bool.{true≢false}
use Rattle.meets.proofs.Counted.{entry-told, entries-more}
use Rattle.meets.proofs.entries.Goals as goal
use Rattle.meets.proofs.entries.Goals.{else-set-e-via-then-set-e+else-not-entry_true, else-set-e-via-else-set-e}

pub loop-e-preserved : goal.loop-e-preserved
loop-e-preserved c =
    let args = c.args in (
      c.loop-e.invariant.0,
      entries-more c.loop-e.invariant.1
          (elim c.else-set-e.branch [
            | else-set-e-via-then-set-e+else-not-entry_true w ↦ (λ m. (entry-told args.sheet.now args.d c.loop-e.e args.v.now
                c.requires.t_value.0 w.entry_at.ensures w.entry_true.ensures).yes w.if-not-entry_true.false)
            | else-set-e-via-else-set-e w ↦ (λ m. absurd (true≢false (sym m ∙ w.if-set-e.false)))
          ]),
    )
