-- Ties laid one behind the other, and what each comes from: ties of functions that are listed as bounds m + 2k and m + 2k + 1, and ties of
-- their arguments by walks over the bounds before them.
-- Assumes nothing.
use Rattle.std.specs.Prelude.{ℕ, suc, ◌+◌, ◌*◌, ◌<◌, ◌≡◌, List, pos, get_or}
use Rattle.closure.specs.Closed.{TiedAt}
use Rattle.cells.specs.Cells.{cell}
use Rattle.sheet.specs.Sheet.{Sheet, count_terms, term_at}
use Rattle.meaning.specs.Meaning.{SameInput}
use Rattle.settled.specs.Settled.{points}
use Rattle.walked.specs.Borne.{Exact}
use Rattle.layers.specs.Bounds.{bounds, from_at, to_at, Listed}
use Rattle.layers.specs.declared.Bound.{Bound}
use Rattle.sketch.specs.Sketch.{how_of, left, right}
use Rattle.forest.specs.Labels.{Labelled}

-- tie t is of two applications whose arguments are in one group by then
pub record OfFunctions (s : Sheet) (ties labels : List ℕ) (t : ℕ) : Type 0 where
  pub left< : left ties t < count_terms s
  pub right< : right ties t < count_terms s
  pub arguments : SameInput (λ a b. cell labels t a ≡ cell labels t b) (term_at s (left ties t)) (term_at s (right ties t))

-- tie t is of two points that a table resting on the first e bounds ties at 0; the ties of functions among these bounds have lower numbers
pub record ByWalks (s : Sheet) (list : List Bound) (ties : List ℕ) (number : ℕ → ℕ) (m t e : ℕ) : Type 0 where
  pub before : ℕ
  pub bounds-are : e ≡ m + 2 * before
  pub earlier : (k : ℕ) → k < before → number k < t
  pub d : ℕ → ℕ → ℕ
  pub exact : Exact (points s) (Listed (bounds e list)) d
  pub tied : TiedAt d (left ties t) (right ties t) (pos 0)

-- the tie of functions that is listed k-th is tie t, and its two bounds are named so
pub record IsTie (list : List Bound) (names ties : List ℕ) (e t : ℕ) : Type 0 where
  pub there : get_or names e 0 ≡ 1024 + t
  pub back : get_or names (e + 1) 0 ≡ 1280 + t
  pub functions : how_of (get_or ties t 0) ≡ 0
  pub left_is : left ties t ≡ from_at list e
  pub right_is : right ties t ≡ to_at list e

pub record Laid (s : Sheet) (list : List Bound) (old names ties labels : List ℕ) (m listed count : ℕ) : Type 0 where
  pub labelled : Labelled (points s) ties labels count
  pub number : ℕ → ℕ
  pub number< : (k : ℕ) → m + 2 * k < listed → number k < count
  pub is-tie : (k : ℕ) → m + 2 * k < listed → IsTie list names ties (m + 2 * k) (number k)
  pub of-functions : (t : ℕ) → t < count → how_of (get_or ties t 0) ≡ 0 → OfFunctions s ties labels t
  pub by-walks : (t e : ℕ) → t < count → how_of (get_or ties t 0) ≡ suc e → (e < listed) × ByWalks s list ties number m t e
  pub names-kept : (e : ℕ) → e < m → get_or names e 0 ≡ get_or old e 0
