-- `meets::entries` meets its contract: the entries of the set before the counter are true.
-- Assumes nothing.
use mathlib.Core.Path.{◌≡◌}
use Rattle.order.specs.First.{marked}
use Rattle.sheet.specs.Sheet.{count_entries}
use Rattle.meets.specs.Parts.{EntriesMet}
use Rattle.meets.proofs.entries.Given as goal

abbrev pub invariant-loop-e : goal.invariant-loop-e
invariant-loop-e l =
    (l.l ≡ count_entries l.sheet) × EntriesMet l.sheet (marked l.set) l.d l.v l.e
