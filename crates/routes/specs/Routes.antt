-- The ties that come an odd number of times on the way up from a point, and on the path between two points.
-- Assumes nothing.
use Rattle.std.specs.Prelude.{ℕ, ◌≤◌, ◌<◌, ◌≡◌, Bool, false, List, eqb}
use Rattle.std.specs.Bool.{xor}
use Rattle.sets.specs.declared.Ties.{Ties}
use Rattle.sets.specs.Sets.{has, stored, put}
use Rattle.links.specs.Links.{root, by, up}

-- whether tie u comes an odd number of times on the paths of the links above i
pub data Upwards (links paths : List ℕ) (u : ℕ) : (i : ℕ) → Bool → Type 0 where
  topmost : {i : ℕ} → root ≤ by links i → Upwards links paths u i false
  further : {i : ℕ} {odd : Bool} → by links i < root → Upwards links paths u (up links i) odd →
      Upwards links paths u i (xor (has (stored paths (by links i)) u) odd)

-- and on those above two points
pub data FromBoth (links paths : List ℕ) (u i j : ℕ) : Bool → Type 0 where
  both : {x y : Bool} → Upwards links paths u i x → Upwards links paths u j y → FromBoth links paths u i j (xor x y)

abbrev pub PathSays : (links paths : List ℕ) (i j : ℕ) → Ties → Type 0
PathSays links paths i j r = (u : ℕ) → FromBoth links paths u i j (has r u)

-- the path of tie t, which joins the groups of a and b: t itself, and those on the ways up from both
pub record LaidPath (links old new : List ℕ) (t a b : ℕ) : Type 0 where
  pub path : Ties
  pub is : new ≡ put old t path
  pub own : (u : ℕ) → (odd : Bool) × FromBoth links old u a b odd × (has path u ≡ xor (eqb u t) odd)
