-- `layers::relax` meets its contract.
-- Assumes nothing.
use Rattle.cells.specs.Cells.{Kept}
use Rattle.layers.specs.Bounds.{bounds}
use Rattle.layers.specs.Layer.{RowOver}
use Rattle.layers.proofs.relax.Given as goal

abbrev pub invariant-loop-bound : goal.invariant-loop-bound
invariant-loop-bound l = RowOver (bounds l.m l.list) l.bound-index l.n l.initial.best l.best l.h l.changed × Kept l.n l.initial.best l.best
