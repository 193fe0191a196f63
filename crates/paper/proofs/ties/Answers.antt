-- `paper::ties` meets its contract: after t turns, the steps of the needed ones of the first t ties are written.
-- Assumes nothing.
use mathlib.Core.Path.{refl}
use native.Mathlib.Omega.{arith}
use Rattle.order.specs.First.{marked}
use Rattle.reasons.specs.Pruned.{rank}
use Rattle.paper.proofs.Ranks.{rank-low, rank-more, rank_same, tie-renamed}
use Rattle.paper.proofs.Kept.{tie_none, tie-kept, tie-left}
use Rattle.paper.proofs.ties.Goals as goal
use Rattle.paper.proofs.ties.Goals.{then-need-t, else-need-t}

pub loop-t-init : goal.loop-t-init
loop-t-init c = (omega arith, tie_none _ _ _ _)

pub tie-at-requires-clause-step_length_in_bounds : goal.tie-at-requires-clause-step_length_in_bounds
tie-at-requires-clause-step_length_in_bounds c =
    let low = rank-low (marked c.args.need.now) c.loop-t.t in
    (omega arith, omega arith, omega arith)

pub loop-t-preserved : goal.loop-t-preserved
loop-t-preserved c =
    let loop = c.loop-t in
    let (short, A) = loop.invariant in
    let keep = marked c.args.need.now in
    elim c.if-need-t.branch [
      | then-need-t w ↦ rw (w.room-is, w.at-is) (
        omega (arith, w.tie-at.ensures.short, rank-more keep loop.t {k = rank keep loop.t} w.if-need-t.true refl),
        tie-kept keep _ loop.t w.if-need-t.true A
            (tie-renamed keep _ _ c.args.ties.now _ loop.t c.args.count c.loop-t-test.true c.requires.ranked
            (c.requires.by_index loop.t c.loop-t-test.true w.if-need-t.true) w.tie-at.ensures.step),
      )
      | else-need-t w ↦ rw (w.room-is, w.at-is) (
        omega (arith, rank_same keep loop.t {k = rank keep loop.t} w.if-need-t.false refl),
        tie-left keep _ loop.t w.if-need-t.false A,
      )
    ]
