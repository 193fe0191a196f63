-- Groups of points as rows of labels: two points are in one group after t ties when row t has one label for both.
-- Assumes nothing.
use Rattle.std.specs.Prelude.{ℕ, ◌+◌, ◌*◌, ◌≤◌, ◌<◌, ◌≡◌, Bool, true, cond, ◌⊎◌, eqb, pos, get_or}
use mathlib.Core.List.{List, Memᴰ as In}
use Rattle.cells.specs.Cells.{stride, cell}
use Rattle.order.specs.First.{marked}
use Rattle.reasons.specs.Step.{Step}
use Rattle.reasons.specs.Rules.{Tied}
use Rattle.sketch.specs.Sketch.{left, right, Fits}

-- a row with the group of b joined to that of a
abbrev pub relabelled : (ℕ → ℕ) → (a b : ℕ) → ℕ → ℕ
relabelled row a b i = cond (eqb (row i) (row b)) (row a) (row i)

-- rows 0 to t over n points: the first has each point by itself, and each tie joins two groups
pub record Labelled (n : ℕ) (ties labels : List ℕ) (t : ℕ) : Type 0 where
  pub begun : (i : ℕ) → i < n → cell labels 0 i ≡ i
  pub left< : (u : ℕ) → u < t → left ties u < n
  pub right< : (u : ℕ) → u < t → right ties u < n
  pub apart : (u : ℕ) → u < t → cell labels u (left ties u) ≡ cell labels u (right ties u) → ⊥
  pub next : (u : ℕ) → u < t → (i : ℕ) → i < n → cell labels (u + 1) i ≡ relabelled (cell labels u) (left ties u) (right ties u) i

-- what each call leaves
pub record Begun (n : ℕ) (old new : List ℕ) : Type 0 where
  pub begun : (i : ℕ) → i < n → cell new 0 i ≡ i
  pub kept : (k : ℕ) → n ≤ k → get_or new k 0 ≡ get_or old k 0

pub record Joined (n t a b : ℕ) (old new : List ℕ) : Type 0 where
  pub row : (i : ℕ) → i < n → cell new (t + 1) i ≡ relabelled (cell old t) a b i
  pub before : (k : ℕ) → k < (t + 1) * stride → get_or new k 0 ≡ get_or old k 0
  pub after : (k : ℕ) → (t + 1) * stride + n ≤ k → get_or new k 0 ≡ get_or old k 0

-- tie u joined the groups of i and j
pub record Joining (labels : List ℕ) (t i j u : ℕ) : Type 0 where
  pub earlier : u < t
  pub apart : cell labels u i ≡ cell labels u j → ⊥
  pub together : cell labels (u + 1) i ≡ cell labels (u + 1) j

-- the ties on the path between i and j are marked, and no others
pub record PathMarked (ties : List ℕ) (t i j : ℕ) (old new : List Bool) : Type 0 where
  pub path : List ℕ
  pub tied : (steps : List Step) → Fits ties t steps → Tied steps t i j (pos 0) path
  pub on : (x : ℕ) → In x path → (x < t) × (marked new x ≡ true)
  pub stays : (x : ℕ) → marked old x ≡ true → marked new x ≡ true
  pub only : (x : ℕ) → marked new x ≡ true → (marked old x ≡ true) ⊎ In x path
