-- What each call leaves of a closed table.
-- Assumes nothing.
use Rattle.std.specs.Prelude.{ℕ, ◌*◌, ◌≤◌, ◌<◌, ◌≡◌, Bool, true, false, List, get_or}
use Rattle.kind.specs.Code.{none, base, sum_of, tighter_of}
use Rattle.closure.specs.Closed.{RelaxedBy}
use Rattle.closure.specs.Table.{Table}
use Rattle.cells.specs.Cells.{stride, cell, Kept}

-- the rows below m are relaxed by the bound g from a to b, and nothing else is changed
pub record Rows (n : ℕ) (old d : List ℕ) (a b g m : ℕ) : Type 0 where
  pub at : (i : ℕ) → i < m → (j : ℕ) → j < n → cell d i j ≡ tighter_of (cell old i j) (sum_of (sum_of (cell old i a) g) (cell old b j))
  pub right : (i j : ℕ) → n ≤ j → j < stride → cell d i j ≡ cell old i j
  pub below : (k : ℕ) → m * stride ≤ k → get_or d k 0 ≡ get_or old k 0

-- the bound g from a to b is put in: it closes no walk under zero, and the table is relaxed by it
pub record Put (n : ℕ) (old new : List ℕ) (a b g : ℕ) : Type 0 where
  pub not-under : base ≤ sum_of g (cell old b a)
  pub relaxed : RelaxedBy n (cell old) (cell new) a b g
  pub table : Table n (cell new)
  pub kept : Kept n old new

-- it closes a walk under zero, and the table is as it was
pub record Shut (old new : List ℕ) (a b g : ℕ) : Type 0 where
  pub under : sum_of g (cell old b a) < base
  pub same : new ≡ old

pub record Inserted (n : ℕ) (old new : List ℕ) (a b g : ℕ) (answer : Bool) : Type 0 where
  pub put : answer ≡ true → Put n old new a b g
  pub shut : answer ≡ false → Shut old new a b g

-- no bounds between the first n points
pub record Started (n : ℕ) (old new : List ℕ) : Type 0 where
  pub same : (i : ℕ) → i < n → cell new i i ≡ base
  pub apart : (i j : ℕ) → i < n → j < n → (i ≡ j → ⊥) → cell new i j ≡ none
  pub table : Table n (cell new)
  pub kept : Kept n old new
