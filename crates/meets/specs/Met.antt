-- Values that meet a sheet on a set S of its entries and keep the answer's limits, given as levels.
-- Assumes nothing.
use Rattle.std.specs.Prelude.{ℕ, ◌^◌, ◌≤◌, ◌<◌, List, ℤ}
use Rattle.whole.specs.Whole.{plus, minus}
use Rattle.order.specs.First.{Set}
use Rattle.sheet.specs.Sheet.{Sheet, count_terms}
use Rattle.meaning.specs.Meaning.{Meet}
use Rattle.answer.specs.Levels.{value_at}

-- the value of term i
abbrev pub value : Sheet → List ℕ → ℕ → ℤ
value s v = value_at v (count_terms s)

pub record Met (s : Sheet) (S : Set) (D : ℕ) (v : List ℕ) : Type 0 where
  pub meet : Meet s S D (value s v)
  pub above : (i : ℕ) → i < count_terms s → plus (value s v i) ≤ 2 ^ 40
  pub below : (i : ℕ) → i < count_terms s → minus (value s v i) ≤ 2 ^ 40
