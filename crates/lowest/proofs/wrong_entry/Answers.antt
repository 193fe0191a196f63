-- `lowest::wrong_entry` meets its contract: what is wrong is found from the front.
-- Assumes nothing.
use Rattle.std.proofs.Common.{◌≡◌, Bool, sym, ap, ◌∙◌, below_more, arith}
use Rattle.grounds.specs.Rows.{wrong_entry, wrong_entry_of}
use Rattle.grounds.proofs.Lowest.{found, lowest-none}
use Rattle.lowest.proofs.wrong_entry.Goals as goal

pub returns-then-wrong_entry : goal.returns-then-wrong_entry
unfolding wrong_entry_of
returns-then-wrong_entry c =
    found c.loop-e.invariant c.loop-e-test.true (ap (wrong_entry _) (sym c.fields_at.ensures) ∙ sym c.wrong_entry.ensures ∙ c.if-wrong_entry.true)

pub loop-e-preserved : goal.loop-e-preserved
unfolding wrong_entry_of
loop-e-preserved c =
    below_more _ _ c.loop-e.invariant (ap (wrong_entry _) (sym c.fields_at.ensures) ∙ sym c.wrong_entry.ensures ∙ c.if-wrong_entry.false)

pub returns : goal.returns
returns c = lowest-none _ _ (λ k h. c.loop-e.invariant k (omega arith))
