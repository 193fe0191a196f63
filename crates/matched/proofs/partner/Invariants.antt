-- `matched::partner` meets its contract: no term before the counter is a partner.
-- Assumes nothing.
use Prim.Native.Nat.{ℕ, ◌<◌}
use Rattle.cells.specs.Cells.{cell}
use Rattle.matched.specs.Matched.{Untied}
use Rattle.matched.proofs.partner.Given as goal

abbrev pub invariant-loop-j : goal.invariant-loop-j
invariant-loop-j l = (k : ℕ) → k < l.j → Untied l.sheet (cell l.d) l.i k → ⊥
