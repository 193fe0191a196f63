-- `paper::tie` meets its contract: by functions, or by the walks at twice its number.
-- Assumes nothing.
use Prim.Native.Nat.{◌+◌, ◌*◌}
use mathlib.Core.Path.{◌≡◌}
use native.Mathlib.Omega.{arith}
use Rattle.sketch.specs.Sketch.{how_of, walk_at}
use Rattle.paper.specs.Written.{ranked_walk}
use Rattle.paper.proofs.Steps.{by-functions, by-walks}
use Rattle.paper.proofs.tie.Goals as goal

pub returns-then-how-eq0 : goal.returns-then-how-eq0
returns-then-how-eq0 c =
    let zero : how_of c.args.tie ≡ 0 = omega (arith, c.how.ensures, c.if-how-eq0.true) in
    let both = by-functions (ranked_walk c.args.ranks.now (walk_at c.args.names.now c.args.walks.now (2 * c.args.t)))
    (ranked_walk c.args.ranks.now (walk_at c.args.names.now c.args.walks.now (2 * c.args.t + 1))) zero c.left-a.ensures c.right-b.ensures c.step.ensures in
    record { step = both.0; short = both.1 }

pub returns-clause-step : goal.returns-clause-step
returns-clause-step c = by-walks _ _ (omega (arith, c.how.ensures, c.if-how-eq0.false)) c.left-a.ensures c.right-b.ensures c.by_walks.ensures.step
