-- `panel::decide` meets its contract: with values that meet the sheet, or as the table says.
-- Assumes nothing.
use mathlib.Core.Logic.{inl}
use native.Mathlib.Omega.{arith}
use borrow.Author.Tests.{not-false}
use Rattle.panel.proofs.Join.{says-met}
use Rattle.panel.proofs.decide.Goals as goal

pub returns : goal.returns
returns c =
    inl
    (says-met _ _ _ (omega arith) c.count_terms-terms.ensures.formed c.count_terms-terms.ensures.count.0 (omega arith, omega arith) (c.values.ensures.met (not-false _ c.if-not-values.false-raw))
    (c.holds.ensures.length, c.holds.ensures.written))
