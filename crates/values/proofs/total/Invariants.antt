-- `values::total` meets its contract: after s turns, the sum of the first s.
-- Assumes nothing.
use Prim.Native.Nat.{◌*◌, ◌≤◌}
use mathlib.Core.Path.{◌≡◌}
use Rattle.kind.specs.Code.{none}
use Rattle.levels.specs.Level.{sum_to, term_of}
use Rattle.cells.specs.Cells.{cell}
use Rattle.values.proofs.total.Given as goal

abbrev pub invariant-loop-s : goal.invariant-loop-s
invariant-loop-s l = (l.sum ≡ sum_to l.s (λ s. term_of l.other (cell l.d l.i s))) × (l.sum ≤ l.s * none)
