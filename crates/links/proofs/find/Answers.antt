-- `links::find` meets its contract: the climb goes on by links of later ties, up to a point that is linked by none.
-- Assumes nothing.
use native.Mathlib.Omega.{arith}
use Rattle.std.proofs.lemmas.Grind.{common_steps}
use Rattle.links.proofs.Climbing.{climbs-begin, climbs-on, climbs-end}
use Rattle.links.proofs.find.Goals as goal

pub loop-top-init : goal.loop-top-init
loop-top-init c = climbs-begin (omega arith)

pub loop-top-preserved : goal.loop-top-preserved
loop-top-preserved c = climbs-on c.loop-top.invariant (grind (arith, common_steps)) c.gap.ensures c.up-top.ensures

pub returns : goal.returns
returns c = climbs-end c.loop-top.invariant (grind (arith, common_steps))
