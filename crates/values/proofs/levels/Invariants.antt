-- `values::levels` meets its contract: after i turns, the first i levels stand, each by the formula of levels' specs/Level.antt, which fits.
-- Assumes nothing.
use Prim.Native.Nat.{ℕ, ◌<◌}
use mathlib.Core.Path.{◌≡◌}
use lib.ListN.{get_or}
use Rattle.closure.specs.Table.{reach}
use Rattle.levels.specs.Level.{level_of}
use Rattle.cells.specs.Cells.{cell}
use Rattle.values.proofs.levels.Given as goal

abbrev pub invariant-loop-i : goal.invariant-loop-i
invariant-loop-i l = (k : ℕ) → k < l.i → get_or l.v k 0 ≡ level_of l.n (reach l.n) (cell l.d) k
