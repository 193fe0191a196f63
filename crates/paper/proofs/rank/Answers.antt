-- `paper::rank` meets its contract: after t turns, the first t ranks stand.
-- Assumes nothing.
use Prim.Native.Nat.{◌+◌, ◌≤◌}
use mathlib.Core.Path.{◌≡◌, refl, sym, ◌∙◌}
use lib.Seq.{get_or-set_other}
use native.Mathlib.Omega.{arith}
use Rattle.order.specs.First.{marked}
use Rattle.reasons.specs.Pruned.{rank}
use Rattle.reasons.proofs.Rank.{rank-zero}
use Rattle.paper.proofs.Ranks.{rank-more, rank_same, ranked-none, ranked-more}
use Rattle.paper.proofs.rank.Goals as goal
use Rattle.paper.proofs.rank.Goals.{then-need-t, else-need-t}

pub loop-t-init : goal.loop-t-init
loop-t-init c = (omega arith, sym (rank-zero _), ranked-none _ _, λ u l. refl)

pub loop-t-preserved : goal.loop-t-preserved
loop-t-preserved c =
    let loop = c.loop-t in
    let (below, is, ranks, kept) = loop.invariant in
    let need = marked c.args.need.now in
    let k : (c.if-need-t.k ≤ loop.t + 1) × (c.if-need-t.k ≡ rank need (loop.t + 1)) =
    elim c.if-need-t.branch [
      | then-need-t w ↦ rw w.k-is (omega arith, rank-more _ _ w.if-need-t.true is)
      | else-need-t w ↦ rw w.k-is (omega arith, rank_same _ _ w.if-need-t.false is)
    ] in (
      k.0,
      k.1,
      ranked-more loop.k (omega arith) is ranks,
      λ u l. get_or-set_other loop.ranks loop.t u loop.k 0 (omega arith) ∙ kept u l,
    )
