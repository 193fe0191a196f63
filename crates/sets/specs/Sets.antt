-- Which ties a set has, and sets in a row.
-- Assumes nothing.
use Rattle.std.specs.Prelude.{ℕ, ◌+◌, ◌*◌, ◌/◌, ◌%◌, ◌^◌, ◌≤◌, ◌<◌, ◌≡◌, Bool, true, false, cond, Option, Some, None, List, eqb, ltb, get_or, set}
use Rattle.sets.specs.declared.Ties.{Ties}

unfoldable pub bit : (word k : ℕ) → Bool
bit word k = eqb (word / 2 ^ k % 2) 1

-- ties 0 to 63, 64 to 127, and none from 128 on
unfoldable pub has : Ties → ℕ → Bool
has a t = cond (ltb t 64) (bit a.low t) (cond (ltb t 128) (bit a.high (t % 64)) false)

-- r is the first number below `most`, from `from` on, that the test holds of
pub record First (holds : ℕ → Bool) (most from r : ℕ) : Type 0 where
  pub below : r < most
  pub from_on : from ≤ r
  pub none : (k : ℕ) → from ≤ k → k < r → holds k ≡ false
  pub here : holds r ≡ true

abbrev pub FirstOf : (holds : ℕ → Bool) (most from : ℕ) → Option ℕ → Type 0
FirstOf holds most from (Some r) = First holds most from r
FirstOf holds most from None = (k : ℕ) → from ≤ k → k < most → holds k ≡ false

-- the first bit of a word that isn't below `from`, if there is one
abbrev pub BitFrom : (word from : ℕ) → Option ℕ → Type 0
BitFrom word from r = FirstOf (bit word) 64 from r

-- the first tie of a set that isn't below `from`, if there is one
abbrev pub FirstFrom : (a : Ties) (from : ℕ) → Option ℕ → Type 0
FirstFrom a from r = FirstOf (has a) 128 from r

-- a row has two words for each set
abbrev pub stored : List ℕ → ℕ → Ties
stored row t = record { low = get_or row (2 * t) 0; high = get_or row (2 * t + 1) 0 }

abbrev pub put : List ℕ → ℕ → Ties → List ℕ
put row t a = set (set row (2 * t) a.low) (2 * t + 1) a.high
