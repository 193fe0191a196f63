-- What the check's functions test, part by part. v has a level for each of t terms and, at t, the zero level.
-- Assumes nothing.
use Rattle.std.specs.Prelude.{ℕ, ◌<◌, ◌≡◌, true, List}
use Rattle.order.specs.First.{Set}
use Rattle.sheet.specs.Sheet.{Sheet, term_at, entry_at}
use Rattle.meaning.specs.Meaning.{Defined, SameInput, EntryTrue}
use Rattle.meets.specs.Met.{value}

-- in values: term i has the value of every term before it that has its input
pub record Functional (s : Sheet) (v : List ℕ) (i : ℕ) : Type 0 where
  pub function : (j : ℕ) → j < i → SameInput (λ a b. value s v a ≡ value s v b) (term_at s j) (term_at s i) → value s v j ≡ value s v i

-- the terms below k are as the meaning asks
pub record TermsMet (s : Sheet) (D : ℕ) (v : List ℕ) (k : ℕ) : Type 0 where
  pub defined : (i : ℕ) → i < k → Defined D (value s v) (value s v i) (term_at s i)
  pub functions : (i : ℕ) → i < k → Functional s v i

-- and the entries below k that the set has are true
pub record EntriesMet (s : Sheet) (S : Set) (D : ℕ) (v : List ℕ) (k : ℕ) : Type 0 where
  pub entries : (e : ℕ) → e < k → S e ≡ true → EntryTrue D (value s v) (entry_at s e)
