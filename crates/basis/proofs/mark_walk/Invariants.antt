-- `basis::mark_walk` meets its contract: the entries of the names before the counter are marked (proofs/Marking.antt).
-- Assumes nothing.
use mathlib.Core.Path.{◌≡◌}
use lib.ListN.{length}
use Rattle.basis.specs.Basis.{OfEntry, Among, Added}
use Rattle.basis.proofs.mark_walk.Given as goal

abbrev pub invariant-loop-name : goal.invariant-loop-name
invariant-loop-name l = (length l.entries ≡ 256) × Added (Among OfEntry l.name-index l.bounds) l.initial.entries l.entries
