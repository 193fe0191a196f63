-- What the links of points say of the first n ties of a reason, and what is known before step n is looked at.
-- Assumes nothing.
use Rattle.std.specs.Prelude.{ℕ, ◌+◌, ◌*◌, ◌^◌, ◌≤◌, ◌<◌, ◌≡◌, Option, Some, None, List, length, get_or, ℤ, neg_ℤ, ◌+ℤ◌}
use Rattle.whole.specs.Whole.{plus, minus}
use Rattle.order.specs.First.{Set}
use Rattle.sheet.specs.Sheet.{Sheet, count_terms}
use Rattle.reasons.specs.Step.{Step, step_at}
use Rattle.reasons.specs.Rules.{Ties, Tied, Apart, TieRight}
use Rattle.legs.specs.Legs.{range, gap_for}
use Rattle.links.specs.Links.{root, up_of, gap_of, by, Rising}
use Rattle.strides.specs.Trodden.{Trodden}

-- two gaps differ by c, but for multiples of the range
pub record Differ (g h : ℕ) (c : ℤ) : Type 0 where
  pub less : ℕ
  pub more : ℕ
  pub is : g + minus c + less * range ≡ h + plus c + more * range

-- a step ties the end below a link to that above it, which differ by d
pub data Across (k : Step) : (below above : ℕ) (d : ℤ) → Type 0 where
  first_below : {a b : ℕ} {c : ℤ} → Ties k a b c → Across k a b c
  second_below : {a b : ℕ} {c : ℤ} → Ties k a b c → Across k b a (neg_ℤ c)

-- the link of point i by tie t: before it, i was of the group of the end below, and the point above i of that of the other end; the
-- link's gap is that along all three
pub record Hangs (s : Sheet) (steps : List Step) (t i link : ℕ) : Type 0 where
  pub point : i ≤ count_terms s
  pub above : up_of link ≤ count_terms s
  pub lower : ℕ
  pub lower-point : lower ≤ count_terms s
  pub upper : ℕ
  pub upper-point : upper ≤ count_terms s
  pub d : ℤ
  pub across : Across (step_at steps t) lower upper d
  pub c : ℤ
  pub first : List ℕ
  pub to-lower : Tied steps t i lower c first
  pub e : ℤ
  pub second : List ℕ
  pub from-upper : Tied steps t upper (up_of link) e second
  pub gap_is : Differ (gap_of link) 0 (c +ℤ (d +ℤ e))

-- the point that is linked by tie t
pub record LinkedBy (links : List ℕ) (t : ℕ) : Type 0 where
  pub point : ℕ
  pub there : point < 256
  pub by-is : by links point ≡ t
  pub linked : t < root

-- the ties of all links are among the first t
pub record Earlier (links : List ℕ) (t : ℕ) : Type 0 where
  pub earlier : (i : ℕ) → i < 256 → by links i < root → by links i < t

-- the links of the first n ties, one of each, and of nothing else: so those by the first t of them have the groups after t ties
pub record Kin (s : Sheet) (steps : List Step) (n : ℕ) (links : List ℕ) : Type 0 where
  pub terms : count_terms s ≤ 128
  pub size : length links ≡ 256
  pub rising : Rising links
  pub earlier : Earlier links n
  pub hangs : (i t : ℕ) → i < 256 → by links i ≡ t → t < root → Hangs s steps t i (get_or links i 0)
  pub each : (t : ℕ) → t < n → LinkedBy links t

-- what is known of the first n steps, all of them ties, before the next one is looked at
pub record Known (s : Sheet) (listed : Set) (steps : List Step) (n : ℕ) (legs links : List ℕ) : Type 0 where
  pub legs-are : Trodden s listed steps n legs
  pub links-are : Kin s steps n links
  pub ties : (t : ℕ) → t < n → TieRight s listed steps t (step_at steps t)

-- what an answer on two points says by the rules: two groups, or one and the gap
pub record OneGap (steps : List Step) (n i j g : ℕ) : Type 0 where
  pub c : ℤ
  pub path : List ℕ
  pub tied : Tied steps n i j c path
  pub gap_is : g ≡ gap_for c
  pub up : plus c < 2 ^ 39
  pub down : minus c < 2 ^ 39

abbrev pub BetweenTold : List Step → (n i j : ℕ) → Option ℕ → Type 0
BetweenTold steps n i j None = Apart steps n i j
BetweenTold steps n i j (Some g) = OneGap steps n i j g
