-- `joined::same_input` meets its contract: kinds and symbols, then first arguments, then second (proofs/Inputs.antt).
-- Assumes nothing.
use mathlib.Core.Path.{sym, ◌∙◌}
use mathlib.Core.Bool.{true≢false}
use borrow.Author.Tests.{not-true, not-false}
use Rattle.meaning.proofs.Decides.{refuted}
use Rattle.joined.proofs.Inputs.{one_symbol, not-other, firsts, seconds, says, one_told, two-told}
use Rattle.joined.proofs.same_input.Goals as goal

pub returns-then-kind-u : goal.returns-then-kind-u
returns-then-kind-u c = refuted (λ J. true≢false (sym c.if-kind-u.true ∙ not-other _ _ (says J).alike))

pub tied_at-requires : goal.tied_at-requires
tied_at-requires c = record {
  d_len = c.requires.d_len;
  a_lt_n = firsts (one_symbol _ _ c.if-kind-u.false) c.requires.arguments_below;
}

pub returns-then-not-tied_at : goal.returns-then-not-tied_at
returns-then-not-tied_at c = refuted (λ J. c.tied_at.ensures.no (not-true _ c.if-not-tied_at.true-raw) (says J).first)

pub tied_at-requires-else-kind-eq3 : goal.tied_at-requires-else-kind-eq3
tied_at-requires-else-kind-eq3 c = record {
  d_len = c.requires.d_len;
  a_lt_n = seconds (one_symbol _ _ c.if-kind-u.false) c.if-kind-eq3.false c.requires.arguments_below;
}

pub returns-then-kind-eq3 : goal.returns-then-kind-eq3
returns-then-kind-eq3 c =
    one_told (one_symbol _ _ c.if-kind-u.false) (c.tied_at.ensures.yes (not-false _ c.if-not-tied_at.false-raw)) c.if-kind-eq3.true

pub returns-else-kind-eq3 : goal.returns-else-kind-eq3
returns-else-kind-eq3 c =
    two-told (one_symbol _ _ c.if-kind-u.false) (c.tied_at.ensures.yes (not-false _ c.if-not-tied_at.false-raw)) c.if-kind-eq3.false
    c.tied_at-else-kind-eq3.ensures
