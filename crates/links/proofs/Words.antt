-- A link that is made of parts within their ranges has those parts.
-- Assumes nothing.
use Prim.Native.Nat.{ℕ, ◌<◌}
use mathlib.Core.Path.{◌≡◌}
use native.Mathlib.Omega.{arith}
use Rattle.legs.specs.Legs.{range}
use Rattle.links.specs.Links.{link_of, by_of, up_of, gap_of}

module _ (by up gap : ℕ) (b : by < 256) (u : up < 256) (g : gap < range) where
  pub by-link : by_of (link_of by up gap) ≡ by
  by-link = omega arith

  pub up-link : up_of (link_of by up gap) ≡ up
  up-link = omega arith

  pub gap-link : gap_of (link_of by up gap) ≡ gap
  gap-link = omega arith
