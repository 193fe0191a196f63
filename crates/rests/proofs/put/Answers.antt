-- `rests::put` meets its contract: the table rests on the bounds before the counter.
-- Assumes nothing.
use Rattle.std.proofs.Common.{◌≡◌, arith, rules}
use Rattle.rests.proofs.Puts.{one_more}
use Rattle.rests.proofs.put.Goals as goal

pub loop-k-preserved : goal.loop-k-preserved
loop-k-preserved c =
    one_more _ _ _ _ _ _ _ _ c.loop-k-test.true c.requires.sound c.loop-k.invariant
    (rw (c.from-a.ensures, c.from-b.ensures) at (c.insert.ensures.put (search rules)))

pub returns : goal.returns
returns c =
    let end : c.loop-k.k ≡ c.args.m = omega arith in
    rw end at c.loop-k.invariant
