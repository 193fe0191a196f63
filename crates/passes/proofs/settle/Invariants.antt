-- `passes::settle` meets its contract: each pass but the last ties something, so that the sum of all cells falls (proofs/Settles.antt).
-- Assumes nothing.
use Rattle.cells.specs.Cells.{cell}
use Rattle.sheet.specs.Decode.{sheet_of}
use Rattle.settled.specs.Settled.{points}
use Rattle.pairs.specs.Passing.{total}
use Rattle.pairs.proofs.Passes.{Passes}
use Rattle.passes.proofs.settle.Given as goal

abbrev pub invariant-loop : goal.invariant-loop
invariant-loop l = Passes l.sheet l.initial.d l.d

abbrev pub decreases-loop : goal.decreases-loop
decreases-loop l = total (points l.sheet) (cell l.d)
