-- Links as numbers, and climbs along them.
-- Assumes nothing.
use Rattle.std.specs.Prelude.{ℕ, ◌+◌, ◌-◌, ◌*◌, ◌/◌, ◌%◌, ◌≤◌, ◌<◌, ◌≡◌, ◌≢◌, Option, Some, None, List, get_or, set}
use Rattle.legs.specs.Legs.{range}

-- a link: the tie that it is by, the point above, and the gap to it
abbrev pub link_of : (by up gap : ℕ) → ℕ
link_of by up gap = (by * 256 + up) * range + gap

abbrev pub by_of : ℕ → ℕ
by_of link = link / (256 * range) % 256

abbrev pub up_of : ℕ → ℕ
up_of link = link / range % 256

abbrev pub gap_of : ℕ → ℕ
gap_of link = link % range

-- a topmost point is linked by no tie, and has the size of its group for the point above
abbrev pub root : ℕ
root = 255

abbrev pub top_of : (size : ℕ) → ℕ
top_of size = link_of root size 0

abbrev pub by : List ℕ → ℕ → ℕ
by links i = by_of (get_or links i 0)

abbrev pub up : List ℕ → ℕ → ℕ
up links i = up_of (get_or links i 0)

abbrev pub gap : List ℕ → ℕ → ℕ
gap links i = gap_of (get_or links i 0)

-- a point above is linked by a later tie, if by any
pub record Rising (links : List ℕ) : Type 0 where
  pub later : (i : ℕ) → i < 256 → by links i < root → by links i < by links (up links i)

-- along links by the first t ties, i is below j, and i = j + gap
pub data Climbs (links : List ℕ) (t : ℕ) : (i j gap : ℕ) → Type 0 where
  stays : {i : ℕ} → t ≤ by links i → Climbs links t i i 0
  rises : {i j g : ℕ} → by links i < t → Climbs links t (up links i) j g → Climbs links t i j ((gap links i + g) % range)

-- whether two points have one topmost point, and their gap
abbrev pub Between : (links : List ℕ) (i j : ℕ) → Option ℕ → Type 0
Between links i j None = (x g y h : ℕ) × Climbs links root i x g × Climbs links root j y h × (x ≢ y)
Between links i j (Some c) = (x g h : ℕ) × Climbs links root i x g × Climbs links root j x h × (c ≡ (g + (range - h)) % range)

-- one of the topmost points of a and b goes below the other, by tie t, which says a = b + c
pub data Joined (old new : List ℕ) (t a b c : ℕ) : Type 0 where
  first_below : {x g y h size : ℕ} → Climbs old root a x g → Climbs old root b y h → size < 256 →
      new ≡ set (set old x (link_of t y ((c + h + (range - g)) % range))) y (top_of size) → Joined old new t a b c
  second_below : {x g y h size : ℕ} → Climbs old root a x g → Climbs old root b y h → size < 256 →
      new ≡ set (set old y (link_of t x ((g + (range - c) + (range - h)) % range))) x (top_of size) → Joined old new t a b c
