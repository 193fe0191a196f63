-- `passes::pass` meets its contract: the terms before the counter are passed, and their keys listed (proofs/Groups.antt).
-- Assumes nothing.
use mathlib.Core.Path.{◌≡◌}
use lib.ListN.{length}
use Rattle.sheet.specs.Decode.{sheet_of}
use Rattle.sheet.specs.Limits.{max_terms}
use Rattle.sorted.specs.Inserted.{Ascending}
use Rattle.pairs.proofs.Passes.{Sofar}
use Rattle.groups.proofs.Groups.{TermsPassed}
use Rattle.passes.proofs.pass.Given as goal

abbrev pub invariant-loop-i : goal.invariant-loop-i
invariant-loop-i l =
    (length l.keys ≡ max_terms) × Ascending l.i l.keys × Sofar l.sheet (TermsPassed l.sheet l.i l.keys) l.initial.d l.d l.fresh
