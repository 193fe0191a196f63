-- `bounds::put_terms` meets its contract: the terms before the counter are in the table (proofs/Parts.antt).
-- Assumes nothing.
use Rattle.cells.specs.Cells.{Kept}
use Rattle.sheet.specs.Decode.{sheet_of}
use Rattle.settled.specs.Settled.{points}
use Rattle.steps.specs.Step.{Went}
use Rattle.steps.specs.True.{TermsTrue, TermsHeld}
use Rattle.bounds.proofs.put_terms.Given as goal

abbrev pub invariant-loop-i : goal.invariant-loop-i
invariant-loop-i l =
    Kept (points l.sheet) l.initial.d l.d × Went (points l.sheet) (TermsTrue l.sheet) (TermsHeld l.sheet l.i) l.initial.d l.d
