-- `links::find` meets its contract: the climb goes on by links of later ties, up to a point that is linked by none.
-- Assumes nothing.
use Prim.Native.Nat.{◌-◌}
use Rattle.links.specs.Links.{root, by_of}
use Rattle.links.proofs.Climbing.{Climbing}
use Rattle.links.proofs.find.Given as goal

abbrev pub invariant-loop-top : goal.invariant-loop-top
invariant-loop-top l = Climbing l.links l.i l.top l.sum l.link

abbrev pub decreases-loop-top : goal.decreases-loop-top
decreases-loop-top l = root - by_of l.link
