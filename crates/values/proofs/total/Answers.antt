-- `values::total` meets its contract: after s turns, the sum of the first s.
-- Assumes nothing.
use mathlib.Core.Path.{◌≡◌, ◌∙◌, ap}
use native.Mathlib.Omega.{arith}
use Rattle.levels.specs.Level.{term_of}
use Rattle.values.proofs.Loops.{sum-none, sum_more}
use Rattle.values.proofs.total.Goals as goal

pub loop-s-init : goal.loop-s-init
loop-s-init c = (sum-none _, omega arith)

pub loop-s-preserved : goal.loop-s-preserved
loop-s-preserved c =
    let loop = c.loop-s in
    (sum_more _ _ _ _ loop.invariant.0 (c.term-sum.ensures.0 ∙ ap (term_of _) c.gap_at.ensures), omega arith)

pub returns : goal.returns
returns c =
    let end : c.loop-s.s ≡ c.args.n = omega arith in
    (rw end at c.loop-s.invariant.0, omega arith)
