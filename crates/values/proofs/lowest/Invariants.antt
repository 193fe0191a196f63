-- `values::lowest` meets its contract: the answer is what the look-up from k on finds.
-- Assumes nothing.
use Prim.Native.Nat.{ℕ, ◌-◌}
use mathlib.Core.Path.{◌≡◌}
use Rattle.closure.specs.Closed.{tie}
use Rattle.levels.specs.Level.{first, lowest_of}
use Rattle.cells.specs.Cells.{cell}
use Rattle.values.proofs.lowest.Given as goal

-- the look-up from k on
abbrev pub from : (ℕ → ℕ → ℕ) → ℕ → ℕ → ℕ
from d i k = first (λ m. tie (d i m) (d m i)) (i - k) k

abbrev pub invariant-loop-k : goal.invariant-loop-k
invariant-loop-k l = lowest_of (cell l.d) l.i ≡ from (cell l.d) l.i l.k
