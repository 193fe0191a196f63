-- What a pass keeps of the terms before the one that it is at: the keys of their inputs, each with the term's number behind it.
-- Assumes nothing.
use Rattle.std.specs.Prelude.{ℕ, ◌+◌, ◌*◌, ◌-◌, ◌≤◌, ◌<◌, ◌≡◌, List, get_or}
use Rattle.sheet.specs.Sheet.{Sheet, term_at}
use Rattle.sorted.specs.Inserted.{Inserted}
use Rattle.roots.specs.Keyed.{Keyed}
use Rattle.pairs.specs.Passing.{PairTied, RowTied}

-- term j's key, by the table d, is among the first m
pub record ListedAt (s : Sheet) (m : ℕ) (keys : List ℕ) (j : ℕ) (d : ℕ → ℕ → ℕ) : Type 0 where
  pub key : ℕ
  pub keyed : Keyed d (term_at s j) key
  pub place : ℕ
  pub within : place < m
  pub there : get_or keys place 0 ≡ 256 * key + j

-- and so for each of the first m terms
pub record Listed (s : Sheet) (m : ℕ) (keys : List ℕ) (d : ℕ → ℕ → ℕ) : Type 0 where
  pub listed : (j : ℕ) → j < m → ListedAt s m keys j d

-- term i is tied to those of its input among the terms whose keys are of the first m and not below least, the lowest that its input has
pub record GroupTied (s : Sheet) (i : ℕ) (keys : List ℕ) (least m : ℕ) (d : ℕ → ℕ → ℕ) : Type 0 where
  pub each : (q : ℕ) → q < m → least ≤ get_or keys q 0 → PairTied s i (get_or keys q 0 - least) d

-- where the keys of the terms before it are listed, term i is tied to each that has its input
pub record TermPassed (s : Sheet) (i : ℕ) (keys : List ℕ) (d : ℕ → ℕ → ℕ) : Type 0 where
  pub row : Listed s i keys d → RowTied s i d

-- and its own key, by the table d, is put in among them
pub record KeyPut (s : Sheet) (i : ℕ) (old new : List ℕ) (d : ℕ → ℕ → ℕ) : Type 0 where
  pub key : ℕ
  pub place : ℕ
  pub keyed : Keyed d (term_at s i) key
  pub put : Inserted i old new (256 * key + i) place
