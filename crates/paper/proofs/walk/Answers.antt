-- `paper::walk` meets its contract: after x turns, the first x bounds are written.
-- Assumes nothing.
use Prim.Native.Nat.{◌+◌, ◌*◌}
use mathlib.Core.Path.{◌≡◌}
use lib.ListN.{get_or, drop, length-drop}
use lib.Seq.{get_or-drop}
use native.Mathlib.Omega.{arith}
use Rattle.paper.proofs.Walks.{bound-length, numbered, walk_none, walk_more}
use Rattle.paper.proofs.walk.Goals as goal

pub loop-x-init : goal.loop-x-init
loop-x-init c = (omega arith, walk_none _ _ _ _)

pub loop-x-preserved : goal.loop-x-preserved
loop-x-preserved c =
    let wrote = c.bound-end in
    let x = c.loop-x.x in
    let first = c.args.at * 130 + 1 in (
      omega (arith, simp bound-length at wrote.ensures.end_is),
      walk_more _ _ (drop first c.args.walks.now) x _ (simp length-drop (omega (arith, c.requires.1.short, c.requires.1.there)))
          (get_or-drop first c.args.walks.now x 0) c.loop-x.invariant.1 wrote.ensures,
    )

pub returns : goal.returns
unfolding numbered
returns c =
    let e : c.loop-x.x ≡ get_or c.args.walks.now (c.args.at * 130) 0 = omega arith in
    rw e at c.loop-x.invariant.1
