-- `table::start` meets its contract: the rows before the counter are started.
-- Assumes nothing.
use Prim.Native.Nat.{ℕ, ◌*◌, ◌≤◌, ◌<◌}
use mathlib.Core.Path.{◌≡◌}
use mathlib.Core.List.{List}
use lib.ListN.{get_or}
use Rattle.kind.specs.Code.{base, none}
use Rattle.cells.specs.Cells.{stride, cell}
use Rattle.table.proofs.start.Given as goal

-- the rows below m are started
pub record Rows (old d : List ℕ) (n m : ℕ) : Type 0 where
  pub same : (i : ℕ) → i < m → cell d i i ≡ base
  pub apart : (i : ℕ) → i < m → (j : ℕ) → j < n → (i ≡ j → ⊥) → cell d i j ≡ none
  pub right : (i j : ℕ) → n ≤ j → j < stride → cell d i j ≡ cell old i j
  pub below : (k : ℕ) → m * stride ≤ k → get_or d k 0 ≡ get_or old k 0

abbrev pub invariant-loop-i : goal.invariant-loop-i
invariant-loop-i l = Rows l.initial.d l.d l.n l.i
