-- `bounds::put_entries` meets its contract: the marked entries before the counter are in the table (proofs/Parts.antt).
-- Assumes nothing.
use mathlib.Core.Bool.{false}
use lib.ListN.{get_or}
use Rattle.cells.specs.Cells.{Kept}
use Rattle.sheet.specs.Decode.{sheet_of}
use Rattle.settled.specs.Settled.{points}
use Rattle.steps.specs.Step.{Went}
use Rattle.steps.specs.True.{EntriesTrue, EntriesHeld}
use Rattle.bounds.proofs.put_entries.Given as goal

abbrev pub invariant-loop-e : goal.invariant-loop-e
invariant-loop-e l =
    Kept (points l.sheet) l.initial.d l.d
    × Went (points l.sheet) (EntriesTrue l.sheet (λ k. get_or l.set k false)) (EntriesHeld l.sheet (λ k. get_or l.set k false) l.e) l.initial.d l.d
