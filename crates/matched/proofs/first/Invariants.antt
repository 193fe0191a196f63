-- `matched::first` meets its contract: no term before the counter has a partner.
-- Assumes nothing.
use Prim.Native.Nat.{ℕ, ◌<◌}
use Rattle.cells.specs.Cells.{cell}
use Rattle.matched.specs.Matched.{Untied}
use Rattle.matched.proofs.first.Given as goal

abbrev pub invariant-loop-i : goal.invariant-loop-i
invariant-loop-i l = (k : ℕ) → k < l.i → (j : ℕ) → j < k → Untied l.sheet (cell l.d) k j → ⊥
