-- `routes::upwards` meets its contract: the climb goes on by links of later ties, and gathers the path of each.
-- Assumes nothing.
use native.Mathlib.Omega.{arith}
use Rattle.routes.proofs.Climbing.{climbs-begin, climbs-on, climbs-end}
use Rattle.routes.proofs.upwards.Goals as goal

pub loop-t-init : goal.loop-t-init
loop-t-init c = climbs-begin (omega arith) c.none-odd.ensures

pub loop-t-preserved : goal.loop-t-preserved
loop-t-preserved c =
    let (is, below) = c.in-Some.ensures in
    climbs-on c.loop-t.invariant (omega arith) c.up.ensures is c.at.ensures c.difference-odd.ensures

pub returns : goal.returns
returns c = climbs-end c.loop-t.invariant c.in_default.ensures
