-- What each call lays behind the ties that are there: one tie, ties of two points, ties of the arguments of two terms.
-- Assumes nothing.
use Rattle.std.specs.Prelude.{ℕ, ◌+◌, ◌*◌, ◌≤◌, ◌<◌, ◌≡◌, List, pos, get_or, set}
use Rattle.closure.specs.Closed.{TiedAt}
use Rattle.cells.specs.Cells.{cell}
use Rattle.sheet.specs.Sheet.{Sheet, term_at}
use Rattle.meaning.specs.Meaning.{SameInput}
use Rattle.joined.specs.Joined.{JoinedAt}
use Rattle.sketch.specs.Sketch.{how_of, left, right}
use Rattle.forest.specs.Labels.{Labelled, Joined}

-- tie t is of a and b, and the next row of labels joins them
pub record Pushed (n t a b how : ℕ) (ties labels ties' labels' : List ℕ) (r : ℕ) : Type 0 where
  pub count : r ≡ t + 1
  pub ties-are : ties' ≡ set ties t (a + 256 * b + 65536 * how)
  pub joined : Joined n t a b labels labels'

-- behind the first t ties come more, up to r: they join groups, come so, and each is of two points that P says
pub record Longer (n how : ℕ) (P : ℕ → ℕ → Type 0) (t : ℕ) (ties labels ties' labels' : List ℕ) (r : ℕ) : Type 0 where
  pub labelled : Labelled n ties' labels' r
  pub at_least : t ≤ r
  pub ties-kept : (u : ℕ) → u < t → get_or ties' u 0 ≡ get_or ties u 0
  pub labels-kept : (u i : ℕ) → u ≤ t → i < n → cell labels' u i ≡ cell labels u i
  pub stays : (i j : ℕ) → i < n → j < n → cell labels t i ≡ cell labels t j → cell labels' r i ≡ cell labels' r j
  pub how-is : (u : ℕ) → t ≤ u → u < r → how_of (get_or ties' u 0) ≡ how
  pub of : (u : ℕ) → t ≤ u → u < r → P (left ties' u) (right ties' u)

-- the points are a and b
pub record Are (a b x y : ℕ) : Type 0 where
  pub left_is : x ≡ a
  pub right_is : y ≡ b

-- a and b are in one group then, by a tie more where they weren't
pub record TiedUp (n e t a b : ℕ) (ties labels ties' labels' : List ℕ) (r : ℕ) : Type 0 where
  pub longer : Longer n (e + 1) (Are a b) t ties labels ties' labels' r
  pub one-group : cell labels' r a ≡ cell labels' r b

-- some table says that terms i and j have the same input
pub record Alike (s : Sheet) (i j : ℕ) : Type 0 where
  pub d : ℕ → ℕ → ℕ
  pub joined : JoinedAt s d i j

-- a and b are arguments of terms i and j, at one place: each table that says that these have the same input ties them
pub record Arguments (s : Sheet) (i j a b : ℕ) : Type 0 where
  pub tied : (d : ℕ → ℕ → ℕ) → JoinedAt s d i j → TiedAt d a b (pos 0)

-- the arguments of terms i and j are in one group each
pub record ArgumentsTied (s : Sheet) (n i j e t : ℕ) (ties labels ties' labels' : List ℕ) (r : ℕ) : Type 0 where
  pub longer : Longer n (e + 1) (Arguments s i j) t ties labels ties' labels' r
  pub input : SameInput (λ a b. cell labels' r a ≡ cell labels' r b) (term_at s i) (term_at s j)
