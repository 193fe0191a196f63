-- `ties::apart` meets its contract: no entry before the counter is in the set and broken.
-- Assumes nothing.
use Prim.Native.Nat.{ℕ, ◌<◌}
use mathlib.Core.Path.{◌≡◌}
use mathlib.Core.Bool.{true, false}
use lib.ListN.{get_or}
use Rattle.cells.specs.Cells.{cell}
use Rattle.sheet.specs.Sheet.{entry_at}
use Rattle.ties.specs.Ties.{Broken}
use Rattle.ties.proofs.apart.Given as goal

abbrev pub invariant-loop-e : goal.invariant-loop-e
invariant-loop-e l = (k : ℕ) → k < l.e → (get_or l.set k false ≡ true) × Broken (cell l.d) (entry_at l.sheet k) → ⊥
