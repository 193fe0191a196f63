-- `layers::relax` meets its contract.
-- Assumes nothing.
use Rattle.std.proofs.Common.{◌≡◌, ◌+◌, ◌*◌, ◌≤◌, ◌<◌, get_or, get_or-take, length-take-le, take, arith, rules}
use Rattle.cells.specs.Cells.{stride}
use Rattle.layers.specs.Bounds.{nowhere}
use Rattle.layers.proofs.Rows.{better, not-better, kept_set}
use Rattle.layers.proofs.relax.Goals as goal
use Rattle.layers.proofs.relax.Goals.{then-lt, else-lt}

pub loop-bound-preserved : goal.loop-bound-preserved
loop-bound-preserved c =
    let S = c.requires.sound in
    let e< : c.loop-bound.bound-index < c.args.m = omega (arith, c.loop-bound-test.true, length-take-le c.args.m c.args.list.now) in
    let bound : get_or (take c.args.m c.args.list.now) c.loop-bound.bound-index nowhere ≡ get_or c.args.list.now c.loop-bound.bound-index nowhere =
    get_or-take _ _ _ _ e< in
    let R = c.loop-bound.invariant.0 in
    let K = c.loop-bound.invariant.1 in
    let total = rw bound at c.via-total.ensures in
    let from = rw bound at c.from.ensures in
    elim c.if-lt.branch [
      | then-lt w ↦ rw (w.best-is, w.changed-is) (
        better _ _ S (omega arith) _ _ _ _ _ e< R _ total _ (omega (arith, from)) (omega (arith, from, S.from< c.loop-bound.bound-index e<)) (search rules),
        kept_set _ (c.args.h + 1) _ _ _ (omega arith) (omega arith) (S.from< c.loop-bound.bound-index e<) (omega (arith, from)) K,
      )
      | else-lt w ↦ rw (w.best-is, w.changed-is)
          (let no-better : get_or c.loop-bound.best (c.args.h * stride + stride + c.from.result) 0 ≤ c.via-total.result.0 = search rules in
          (not-better _ _ S (omega arith) _ _ _ _ _ e< R _ total _ (omega (arith, from)) no-better, K))
    ]
