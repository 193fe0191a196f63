-- `layers::fill` meets its contract.
-- Assumes nothing.
use Rattle.cells.specs.Cells.{Kept}
use Rattle.layers.specs.Bounds.{bounds}
use Rattle.layers.specs.Layer.{Rows}
use Rattle.layers.proofs.fill.Given as goal

abbrev pub invariant-loop-h : goal.invariant-loop-h
invariant-loop-h l = Rows (bounds l.m l.list) l.n l.b l.best l.h × Kept l.n l.initial.best l.best
