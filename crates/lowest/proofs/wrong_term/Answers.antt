-- `lowest::wrong_term` meets its contract: what is wrong is found from the front.
-- Assumes nothing.
use Rattle.std.proofs.Common.{◌≡◌, Bool, sym, ap, ◌∙◌, below_more, arith}
use Rattle.grounds.specs.Rows.{wrong_term, wrong_term_of}
use Rattle.grounds.proofs.Lowest.{found, lowest-none}
use Rattle.lowest.proofs.wrong_term.Goals as goal

pub returns-then-wrong_term : goal.returns-then-wrong_term
unfolding wrong_term_of
returns-then-wrong_term c =
    found c.loop-i.invariant c.loop-i-test.true (ap (wrong_term _) (sym c.fields_at.ensures) ∙ sym c.wrong_term.ensures ∙ c.if-wrong_term.true)

pub loop-i-preserved : goal.loop-i-preserved
unfolding wrong_term_of
loop-i-preserved c =
    below_more _ _ c.loop-i.invariant (ap (wrong_term _) (sym c.fields_at.ensures) ∙ sym c.wrong_term.ensures ∙ c.if-wrong_term.false)

pub returns : goal.returns
returns c = lowest-none _ _ (λ k h. c.loop-i.invariant k (omega arith))
