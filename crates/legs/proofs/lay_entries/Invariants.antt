-- `legs::lay_entries` meets its contract: the legs of the entries before the counter are laid (proofs/Laid.antt).
-- Assumes nothing.
use mathlib.Core.Path.{◌≡◌}
use Rattle.order.specs.First.{marked}
use Rattle.sheet.specs.Sheet.{count_entries}
use Rattle.legs.specs.Legs.{LaidEntries}
use Rattle.legs.proofs.lay_entries.Given as goal

abbrev pub invariant-loop-e : goal.invariant-loop-e
invariant-loop-e l =
    (l.count ≡ count_entries l.sheet) × LaidEntries l.sheet (marked l.listed) l.e l.initial.legs l.legs
