-- What the pair loop tests, on the keys and the levels v of the terms. The keys of term j stand at j, the first, and at max_terms + j, the second.
-- Assumes nothing.
use Rattle.std.specs.Prelude.{ℕ, ◌+◌, ◌*◌, ◌/◌, ◌%◌, ◌<◌, ◌≡◌, Bool, true, false, List, get_or, set}
use Rattle.sheet.specs.Limits.{max_terms}

-- how many keys there are
abbrev pub key_count : ℕ
key_count = 2 * max_terms

-- the keys with those of term i
abbrev pub stored : List ℕ → ℕ → ℕ → ℕ → List ℕ
stored keys i first second = set (set keys i first) (max_terms + i) second

-- the terms before the k-th that have both keys have the level
pub record Alike (keys v : List ℕ) (first second level k : ℕ) : Type 0 where
  pub alike : (j : ℕ) → j < k → get_or keys j 0 ≡ first → get_or keys (max_terms + j) 0 ≡ second → get_or v j 0 ≡ level

-- the i-th, with these keys and this level, has the level of every term before it that has its input
pub record RowAgrees (keys v : List ℕ) (first second level i : ℕ) : Type 0 where
  pub row : 0 < first → Alike keys v first second level i

-- how many shelves there are
abbrev pub shelf_count : ℕ
shelf_count = 4 * max_terms

-- a shelf for each first key: keys on two shelves are two
abbrev pub shelf_of : ℕ → ℕ
shelf_of key = (key / 512 + key % 512) % shelf_count

-- the shelf of each first key before the k-th is taken
pub record Shelved (keys : List ℕ) (shelves : List Bool) (k : ℕ) : Type 0 where
  pub taken : (j : ℕ) → j < k → 0 < get_or keys j 0 → get_or shelves (shelf_of (get_or keys j 0)) false ≡ true
