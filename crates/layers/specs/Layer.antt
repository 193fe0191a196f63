-- Best totals of walks to b by their number of bounds: row h has, for each point, that of the walks from it with at most h.
-- Assumes nothing.
use Rattle.std.specs.Prelude.{ℕ, ◌+◌, ◌*◌, ◌≤◌, ◌<◌, ◌≡◌, Bool, false, List, ◌⊎◌, get_or, take}
use Rattle.kind.specs.Code.{none, base, sum_of}
use Rattle.kind.specs.Kind.{kind_of}
use Rattle.cells.specs.Cells.{stride, cell}
use Rattle.layers.specs.Bounds.{Bounds, from, to, code, Goes}

-- the total is that over one of the first m bounds, from i
pub record Over (B : Bounds) (m : ℕ) (low : ℕ → ℕ) (i total : ℕ) : Type 0 where
  pub number : ℕ
  pub there : number < m
  pub starts : from B number ≡ i
  pub sums : sum_of (code B number) (low (to B number)) ≡ total

-- and e is such a bound
pub record Chosen (B : Bounds) (low : ℕ → ℕ) (i total e : ℕ) : Type 0 where
  pub there : e < B.count
  pub starts : from B e ≡ i
  pub sums : sum_of (code B e) (low (to B e)) ≡ total

-- up is low, or better by one of the first m bounds in front
pub record Layered (B : Bounds) (m n : ℕ) (low up : ℕ → ℕ) : Type 0 where
  pub at-most : (i : ℕ) → i < n → up i ≤ low i
  pub over : (e : ℕ) → e < m → up (from B e) ≤ sum_of (code B e) (low (to B e))
  pub one : (i : ℕ) → i < n → (up i ≡ low i) ⊎ Over B m low i (up i)

-- row 0: the walks of no bounds
pub record Begun (n b : ℕ) (best : List ℕ) : Type 0 where
  pub same : cell best 0 b ≡ base
  pub apart : (i : ℕ) → i < n → (i ≡ b → ⊥) → cell best 0 i ≡ none

-- new is old with the first n cells of row h in row h + 1 too
pub record Copied (n : ℕ) (old new : List ℕ) (h : ℕ) : Type 0 where
  pub copied : (i : ℕ) → i < n → cell new (h + 1) i ≡ cell old h i
  pub before : (k : ℕ) → k < (h + 1) * stride → get_or new k 0 ≡ get_or old k 0

-- new is old with row h + 1 made of row h by the first m bounds; where the answer is no, the two rows are the same
pub record RowOver (B : Bounds) (m n : ℕ) (old new : List ℕ) (h : ℕ) (changed : Bool) : Type 0 where
  pub layer : Layered B m n (cell old h) (cell new (h + 1))
  pub before : (k : ℕ) → k < (h + 1) * stride → get_or new k 0 ≡ get_or old k 0
  pub still : changed ≡ false → (i : ℕ) → i < n → cell new (h + 1) i ≡ cell old h i

-- rows 0 to h
pub record Rows (B : Bounds) (n b : ℕ) (best : List ℕ) (h : ℕ) : Type 0 where
  pub begun : Begun n b best
  pub next : (g : ℕ) → g < h → Layered B B.count n (cell best g) (cell best (g + 1))

-- fewer than n bounds; and where more are left, they do no better
pub record Layers (B : Bounds) (n b : ℕ) (best : List ℕ) (h : ℕ) : Type 0 where
  pub few : h < n
  pub rows : Rows B n b best h
  pub last : h + 1 < n → (e : ℕ) → e < B.count → cell best h (from B e) ≤ sum_of (code B e) (cell best h (to B e))

-- the first k numbers of out are a walk from a to b with at most h bounds, and its total is that of row h
pub record Read (B : Bounds) (a b : ℕ) (best : List ℕ) (h : ℕ) (old out : List ℕ) (k : ℕ) : Type 0 where
  pub few : k ≤ h
  pub goes : Goes B a b (kind_of (cell best h a)) (take k out)
  pub kept : (s : ℕ) → k ≤ s → get_or out s 0 ≡ get_or old s 0
