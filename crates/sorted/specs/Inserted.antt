-- Numbers that ascend, one more put in where it belongs, and where those from a least one on begin.
-- Assumes nothing.
use Rattle.std.specs.Prelude.{ℕ, ◌+◌, ◌≤◌, ◌<◌, ◌≡◌, List, get_or}

-- the first m ascend
pub record Ascending (m : ℕ) (keys : List ℕ) : Type 0 where
  pub ascend : (p q : ℕ) → p < q → q < m → get_or keys p 0 ≤ get_or keys q 0

-- key stands at place: lower ones below it, as they were, the others one place higher than they were, and what is past them untouched
pub record Inserted (m : ℕ) (old new : List ℕ) (key place : ℕ) : Type 0 where
  pub within : place ≤ m
  pub here : get_or new place 0 ≡ key
  pub lower : (q : ℕ) → q < place → (get_or new q 0 ≡ get_or old q 0) × (get_or old q 0 < key)
  pub higher : (q : ℕ) → place ≤ q → q < m → (get_or new (q + 1) 0 ≡ get_or old q 0) × (key ≤ get_or old q 0)
  pub past : (q : ℕ) → m < q → get_or new q 0 ≡ get_or old q 0

-- place is the first of m from which no key is below least
pub record FirstFrom (m : ℕ) (keys : List ℕ) (least place : ℕ) : Type 0 where
  pub within : place ≤ m
  pub below : (q : ℕ) → q < place → get_or keys q 0 < least
  pub from : (q : ℕ) → place ≤ q → q < m → least ≤ get_or keys q 0
