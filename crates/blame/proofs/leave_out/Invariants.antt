-- `blame::leave_out` meets its contract. The loop's invariant: the entries from r up are done (order, `GoneDown`).
-- Assumes nothing.
use Rattle.cells.specs.Cells.{Kept}
use Rattle.order.specs.First.{marked, number}
use Rattle.order.specs.Down.{GoneDown}
use Rattle.sheet.specs.Decode.{sheet_of}
use Rattle.sheet.specs.Sheet.{count_entries}
use Rattle.meaning.specs.Meaning.{Clashes}
use Rattle.settled.specs.Settled.{points}
use Rattle.blame.proofs.leave_out.Given as goal

abbrev pub invariant-loop-r : goal.invariant-loop-r
invariant-loop-r l =
    Kept (points l.sheet) l.initial.d l.d
    × GoneDown (Clashes l.sheet) (count_entries l.sheet) number l.r (marked l.marks)
