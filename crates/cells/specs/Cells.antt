-- The table in a slice, rows of one length behind each other, and what each call leaves of it.
-- Assumes nothing.
use Rattle.std.specs.Prelude.{ℕ, ◌+◌, ◌*◌, ◌≤◌, ◌<◌, ◌≡◌, List, length, get_or}
use Rattle.sheet.specs.Limits.{max_terms}
use Rattle.kind.specs.Code.{none, base, sum_of, tighter_of}

-- the most points: a sheet's terms and the zero level
abbrev pub stride : ℕ
stride = max_terms + 1

abbrev pub cells : ℕ
cells = stride * stride

-- the gap from i to j
abbrev pub cell : List ℕ → ℕ → ℕ → ℕ
cell d i j = get_or d (i * stride + j) 0

-- from some cell on there is no gap
abbrev pub NoneThere : ℕ → List ℕ → Type 0
NoneThere from row = (j : ℕ) → from ≤ j → j < length row → none ≤ get_or row j 0

-- nothing but the first n cells of the first n rows is changed
pub record Kept (n : ℕ) (old new : List ℕ) : Type 0 where
  pub right : (i j : ℕ) → n ≤ j → j < stride → cell new i j ≡ cell old i j
  pub below : (k : ℕ) → n * stride ≤ k → get_or new k 0 ≡ get_or old k 0

-- new is old with a row i that says nothing of the other points
pub record RowStarted (old new : List ℕ) (i n : ℕ) : Type 0 where
  pub same : cell new i i ≡ base
  pub apart : (j : ℕ) → j < n → (i ≡ j → ⊥) → cell new i j ≡ none
  pub before : (k : ℕ) → k < i * stride → get_or new k 0 ≡ get_or old k 0
  pub after : (k : ℕ) → i * stride + n ≤ k → get_or new k 0 ≡ get_or old k 0

-- new is old with the cells of row i from column `from` up to `to` relaxed: the sum of via and the row's cell, where that is tighter
pub record RowRelaxed (old new row : List ℕ) (i via from to : ℕ) : Type 0 where
  pub at : (j : ℕ) → from ≤ j → j < to → cell new i j ≡ tighter_of (cell old i j) (sum_of via (get_or row j 0))
  pub before : (k : ℕ) → k < i * stride + from → get_or new k 0 ≡ get_or old k 0
  pub after : (k : ℕ) → i * stride + to ≤ k → get_or new k 0 ≡ get_or old k 0
