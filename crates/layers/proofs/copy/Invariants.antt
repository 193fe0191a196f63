-- `layers::copy` meets its contract: the cells before the counter's are copied.
-- Assumes nothing.
use Rattle.cells.specs.Cells.{Kept}
use Rattle.layers.specs.Layer.{Copied}
use Rattle.layers.proofs.copy.Given as goal

abbrev pub invariant-loop-i : goal.invariant-loop-i
invariant-loop-i l = Copied l.i l.initial.best l.best l.h × Kept l.n l.initial.best l.best
