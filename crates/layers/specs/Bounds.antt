-- Bounds in a list, walks over them as lists of their numbers, and which walk is the least.
-- Assumes nothing.
use Rattle.std.specs.Prelude.{ℕ, ◌-◌, ◌≤◌, ◌<◌, ◌≡◌, List, [], ◌∷◌, length, get_or, take}
use Rattle.kind.specs.Code.{none, Within}
use Rattle.kind.specs.Kind.{Kind, zero_gap, under_zero, added, kind_of}
use Rattle.closure.specs.Walk.{Tight}
use Rattle.closure.specs.Table as size
use Rattle.walked.specs.Borne.{Few}
use Rattle.layers.specs.declared.Bound.{Bound}

-- what stands at a number past the list's end
abbrev pub nowhere : Bound
nowhere = record { from = 0; to = 0; gap = record { 0 = 0 } }

-- bound e of a list goes from `from_at list e` to `to_at list e`, with the gap of `code_at list e`
abbrev pub from_at : List Bound → ℕ → ℕ
from_at list e = (get_or list e nowhere).from

abbrev pub to_at : List Bound → ℕ → ℕ
to_at list e = (get_or list e nowhere).to

abbrev pub code_at : List Bound → ℕ → ℕ
code_at list e = (get_or list e nowhere).gap.0

-- the first bounds of a list
pub record Bounds : Type 0 where
  pub count : ℕ
  pub list : List Bound

abbrev pub bounds : ℕ → List Bound → Bounds
bounds m list = record { count = m; list = list }

abbrev pub from : Bounds → ℕ → ℕ
from B e = from_at B.list e

abbrev pub to : Bounds → ℕ → ℕ
to B e = to_at B.list e

abbrev pub code : Bounds → ℕ → ℕ
code B e = code_at B.list e

-- bounds between n points, each of a sheet's size
pub record Sound (n : ℕ) (B : Bounds) : Type 0 where
  pub few : B.count ≤ 65535
  pub all_bounds : B.count ≤ length B.list
  pub from< : (e : ℕ) → e < B.count → from B e < n
  pub to< : (e : ℕ) → e < B.count → to B e < n
  pub there : (e : ℕ) → e < B.count → code B e < none
  pub near : (e : ℕ) → e < B.count → Within size.step (code B e)

-- one of the bounds goes from i to j with the gap g
pub record Listed (B : Bounds) (i j : ℕ) (g : Kind) : Type 0 where
  pub number : ℕ
  pub there : number < B.count
  pub starts : from B number ≡ i
  pub ends : to B number ≡ j
  pub gap : kind_of (code B number) ≡ g

-- the bounds of these numbers are a walk from a point to a point, of this total
pub data Goes (B : Bounds) : ℕ → ℕ → Kind → List ℕ → Type 0 where
  stop : {i : ℕ} → Goes B i i zero_gap []
  step : {k : ℕ} {t : Kind} {es : List ℕ} (e : ℕ) → e < B.count → Goes B (to B e) k t es → Goes B (from B e) k (added (kind_of (code B e)) t) (e ∷ es)

-- some walk from a to b has fewer than n bounds
pub record Reachable (n : ℕ) (B : Bounds) (a b : ℕ) : Type 0 where
  pub total : Kind
  pub way : Few (Listed B) (n - 1) a b total

-- the first k numbers of out are a walk from a to b with fewer than n bounds, and no such walk is tighter; the others are as they were
pub record Least (n : ℕ) (B : Bounds) (a b : ℕ) (old out : List ℕ) (k : ℕ) : Type 0 where
  pub few : k < n
  pub total : Kind
  pub goes : Goes B a b total (take k out)
  pub least : {t : Kind} → Few (Listed B) (n - 1) a b t → Tight total t
  pub kept : (s : ℕ) → k ≤ s → get_or out s 0 ≡ get_or old s 0

-- a walk from a back to a, under zero and with at most n bounds
pub record Closing (n : ℕ) (B : Bounds) (a : ℕ) (es : List ℕ) : Type 0 where
  pub total : Kind
  pub goes : Goes B a a total es
  pub under : Tight total under_zero
  pub few : length es ≤ n
