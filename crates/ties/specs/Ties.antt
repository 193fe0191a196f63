-- What the look at the ≠ entries answers.
-- Assumes nothing.
use Rattle.std.specs.Prelude.{ℕ, ◌<◌, ◌≡◌, Bool, true, false}
use Rattle.closure.specs.Closed.{TiedAt}
use Rattle.order.specs.First.{Set}
use Rattle.sheet.specs.Sheet.{unequal, Entry, Sheet, count_entries, entry_at}
use Rattle.settled.specs.Settled.{Apart}

-- a ≠ entry on terms tied at exactly its c
pub record Broken (d : ℕ → ℕ → ℕ) (e : Entry) : Type 0 where
  pub is-unequal : e.relation ≡ unequal
  pub tied : TiedAt d e.a e.b e.c

abbrev pub BrokenAt : Sheet → Set → (ℕ → ℕ → ℕ) → ℕ → Type 0
BrokenAt s S d e = (S e ≡ true) × Broken d (entry_at s e)

pub record BrokenSome (s : Sheet) (S : Set) (d : ℕ → ℕ → ℕ) : Type 0 where
  pub e : ℕ
  pub below : e < count_entries s
  pub marked : S e ≡ true
  pub broken : Broken d (entry_at s e)

pub record Checked (s : Sheet) (S : Set) (d : ℕ → ℕ → ℕ) (answer : Bool) : Type 0 where
  pub apart : answer ≡ true → Apart s S d
  pub broken : answer ≡ false → BrokenSome s S d
