-- `layers::find` meets its contract.
-- Assumes nothing.
use Rattle.std.proofs.Common.{ℕ, ◌<◌}
use Rattle.cells.specs.Cells.{cell}
use Rattle.layers.specs.Bounds.{bounds}
use Rattle.layers.specs.Layer.{Chosen}
use Rattle.layers.proofs.find.Given as goal

abbrev pub invariant-loop-e : goal.invariant-loop-e
invariant-loop-e l = (k : ℕ) → k < l.e → Chosen (bounds l.m l.list) (cell l.best l.h) l.i l.total.0 k → ⊥
