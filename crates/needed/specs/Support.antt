-- What one tie rests on: what it takes to find it, and what is then found and marked.
-- Assumes nothing.
use Rattle.std.specs.Prelude.{ℕ, suc, ◌+◌, ◌*◌, ◌%◌, ◌≤◌, ◌<◌, ◌≡◌, Bool, true, ◌⊎◌, pos, length, get_or}
use mathlib.Core.List.{List, Memᴰ as In}
use Rattle.closure.specs.Closed.{TiedAt}
use Rattle.cells.specs.Cells.{cell}
use Rattle.order.specs.First.{marked}
use Rattle.sheet.specs.Sheet.{Term, Sheet, term_at}
use Rattle.meaning.specs.Meaning.{SameInput}
use Rattle.settled.specs.Settled.{points}
use Rattle.walked.specs.Borne.{Exact}
use Rattle.layers.specs.Bounds.{bounds, Sound, Listed}
use Rattle.layers.specs.declared.Bound.{Bound}
use Rattle.reasons.specs.Step.{Step}
use Rattle.reasons.specs.Rules.{Tied}
use Rattle.sketch.specs.Sketch.{place, how_of, left, right, Fits}
use Rattle.forest.specs.Labels.{Labelled}
use Rattle.laid.specs.Laid.{OfFunctions}
use Rattle.needed.specs.Needed.{PathOn, WalkOn, Facing, Leads}

-- the arguments of two applications are in one group after t ties
abbrev pub InOneGroup : (labels : List ℕ) (t : ℕ) → Term → Term → Type 0
InOneGroup labels t = SameInput (λ a b. cell labels t a ≡ cell labels t b)

-- the first e bounds, on which a table rests that ties the points of tie t at 0, and which name earlier ties only
pub record Walkable (s : Sheet) (list : List Bound) (names ties : List ℕ) (t e : ℕ) : Type 0 where
  pub sound : Sound (points s) (bounds e list)
  pub all-names : e ≤ length names
  pub earlier : (b : ℕ) → b < e → 1024 ≤ get_or names b 0 → get_or names b 0 % 256 < t
  pub d : ℕ → ℕ → ℕ
  pub exact : Exact (points s) (Listed (bounds e list)) d
  pub tied : TiedAt d (left ties t) (right ties t) (pos 0)

-- what tie t comes from
pub record Grounds (s : Sheet) (list : List Bound) (names ties labels : List ℕ) (t : ℕ) : Type 0 where
  pub labelled : Labelled (points s) ties labels t
  pub left< : left ties t < points s
  pub right< : right ties t < points s
  pub functions : how_of (get_or ties t 0) ≡ 0 → OfFunctions s ties labels t
  pub walks : (e : ℕ) → how_of (get_or ties t 0) ≡ suc e → Walkable s list names ties t e

-- tie x lies on a path between arguments of the terms u and v
pub record Between (ties : List ℕ) (t : ℕ) (u v : Term) (x : ℕ) : Type 0 where
  pub i : ℕ
  pub j : ℕ
  pub path : List ℕ
  pub facing : Facing u v i j
  pub tied : (steps : List Step) → Fits ties t steps → Tied steps t i j (pos 0) path
  pub on : In x path
  pub earlier : x < t

-- the paths between the arguments of u and v are marked, and nothing else
pub record Argued (ties : List ℕ) (t : ℕ) (u v : Term) (old new : List Bool) : Type 0 where
  pub input : SameInput (PathOn ties t new) u v
  pub stays : (x : ℕ) → marked old x ≡ true → marked new x ≡ true
  pub only : (x : ℕ) → marked new x ≡ true → (marked old x ≡ true) ⊎ Between ties t u v x

-- what tie t rests on is found and marked, and nothing else; the walks behind its own are kept
pub record Supported (s : Sheet) (list : List Bound) (names ties : List ℕ) (t : ℕ) (walks walks' : List ℕ) (need need' : List Bool) : Type 0 where
  pub functions : how_of (get_or ties t 0) ≡ 0 → SameInput (PathOn ties t need') (term_at s (left ties t)) (term_at s (right ties t))
  pub there : (e : ℕ) → how_of (get_or ties t 0) ≡ suc e → WalkOn (points s) list names walks' need' e (left ties t) (right ties t) (2 * t)
  pub back : (e : ℕ) → how_of (get_or ties t 0) ≡ suc e → WalkOn (points s) list names walks' need' e (right ties t) (left ties t) (2 * t + 1)
  pub stays : (x : ℕ) → marked need x ≡ true → marked need' x ≡ true
  pub only : (x : ℕ) → marked need' x ≡ true → (marked need x ≡ true) ⊎ ((x < t) × Leads s names ties walks' t x)
  pub after : (k : ℕ) → (2 * t + 2) * place ≤ k → get_or walks' k 0 ≡ get_or walks k 0
