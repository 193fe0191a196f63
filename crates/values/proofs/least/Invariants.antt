-- `values::least` meets its contract: after s turns, the whole number of the tightest gap is the least of the first s.
-- Assumes nothing.
use Prim.Native.Nat.{◌≤◌}
use mathlib.Core.Path.{◌≡◌}
use Rattle.kind.specs.Code.{base}
use Rattle.levels.specs.Level.{whole_at, least_of}
use Rattle.cells.specs.Cells.{cell}
use Rattle.values.proofs.least.Given as goal

abbrev pub invariant-loop-s : goal.invariant-loop-s
invariant-loop-s l = (l.m.0 ≤ base) × (whole_at l.m.0 ≡ least_of l.s (cell l.d l.i))
