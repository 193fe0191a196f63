-- `routes::upwards` meets its contract: the climb goes on by links of later ties, and gathers the path of each.
-- Assumes nothing.
use Prim.Native.Nat.{◌-◌}
use Rattle.links.specs.Links.{root, by_of}
use Rattle.routes.proofs.Climbing.{Climbing}
use Rattle.routes.proofs.upwards.Given as goal

abbrev pub invariant-loop-t : goal.invariant-loop-t
invariant-loop-t l = Climbing l.links l.paths l.i l.odd l.link

abbrev pub decreases-loop-t : goal.decreases-loop-t
decreases-loop-t l = root - by_of l.link
