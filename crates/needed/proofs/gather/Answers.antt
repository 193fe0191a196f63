-- `needed::gather` meets its contract: what the needed ties from t on rest on is found (proofs/Gathering.antt).
-- Assumes nothing.
use Prim.Native.Nat.{◌+◌, ◌-◌}
use mathlib.Core.Path.{◌≡◌, sym, ◌∙◌}
use mathlib.Core.Bool.{true≢false}
use native.Mathlib.Omega.{arith}
use Rattle.cells.proofs.Keeps.{kept-all, kept_on}
use Rattle.settled.specs.Settled.{points}
use Rattle.needed.proofs.Gathering.{none_yet, left_out, one_more, all, grounds}
use Rattle.needed.proofs.gather.Goals as goal

pub loop-t-init : goal.loop-t-init
loop-t-init c = (none_yet _ _, kept-all _ _)

pub support-requires-clause-grounds : goal.support-requires-clause-grounds
support-requires-clause-grounds c =
    let pre = c.requires in
    grounds pre.laid pre.sound.0 pre.sound.1 pre.by_index (omega (arith, c.count_terms-n.ensures.formed.terms, pre.ties_len.2)) (omega arith)

pub loop-t-preserved-then-need-t : goal.loop-t-preserved-then-need-t
loop-t-preserved-then-need-t c =
    let pre = c.requires in
    let kept = c.support.auto in
    let all-points : c.count_terms-n.result + 1 ≡ points c.args.sheet.now = omega (arith, c.count_terms-n.ensures.count.0) in
    let up : c.loop-t.t ≡ c.loop-t.t - 1 + 1 = omega arith in (
      one_more (rw up at c.loop-t.invariant.0) (omega (arith, c.count_terms-n.ensures.formed.terms)) (omega (arith, pre.ties_len, c.count_terms-n.ensures.formed.terms)) kept.walks (omega arith)
          c.if-need-t.true c.support.ensures.supported,
      kept_on c.loop-t.invariant.1 (rw all-points at c.support.ensures.kept),
    )

pub loop-t-preserved : goal.loop-t-preserved
loop-t-preserved c =
    let up : c.loop-t.t ≡ c.loop-t.t - 1 + 1 = omega arith in
    (left_out (rw up at c.loop-t.invariant.0) (λ m. true≢false (sym m ∙ c.if-need-t.false)), c.loop-t.invariant.1)

pub returns-clause-gathered : goal.returns-clause-gathered
returns-clause-gathered c = let end : c.loop-t.t ≡ 0 = omega arith in all (rw end at c.loop-t.invariant.0)
