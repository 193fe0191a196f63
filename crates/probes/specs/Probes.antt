-- What the small tests answer: of two points by links, and of where a walk over legs has come to.
-- Assumes nothing.
use Rattle.std.specs.Prelude.{ℕ, ◌+◌, ◌/◌, ◌≤◌, ◌≡◌, Bool, true, false, ◌⊎◌, ◌≢◌, Some, None, List, take}
use Rattle.legs.specs.Legs.{range, start_at, Goes}
use Rattle.legs.specs.declared.Stand.{Stand}
use Rattle.links.specs.Links.{Between}

-- what links say of two points: whether they are of one group, and whether at a gap
pub data TiedSays (links : List ℕ) (i j : ℕ) : Bool → Type 0 where
  one-group : (gap : ℕ) → Between links i j (Some gap) → TiedSays links i j true
  two-groups : Between links i j None → TiedSays links i j false

pub data TiedAtSays (links : List ℕ) (i j gap : ℕ) : Bool → Type 0 where
  at-it : Between links i j (Some gap) → TiedAtSays links i j gap true
  at-another : (other : ℕ) → other ≢ gap → Between links i j (Some other) → TiedAtSays links i j gap false
  at_none : Between links i j None → TiedAtSays links i j gap false

-- a walk over the first bounds of a row, at most `level` + 1 and none of them strict, from i to j, that comes to the gap
pub record GoesTo (legs bounds : List ℕ) (level count i j gap : ℕ) : Type 0 where
  pub few : count ≤ level + 1
  pub goes : Goes legs (take count bounds) (start_at i) (record { at = j; gap = gap; strict = false })

-- where a walk has come to says that its total is below zero, or zero with a strict bound
abbrev pub UnderAt : Stand → Type 0
UnderAt e = (range / 2 ≤ e.gap) ⊎ ((e.gap ≡ 0) × (e.strict ≡ true))
