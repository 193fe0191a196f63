-- `drafting::records` meets its contract: after i turns, the records of the first i cells are laid.
-- Assumes nothing.
use mathlib.Core.Path.{◌≡◌, ◌∙◌}
use native.Mathlib.Omega.{arith}
use Rattle.drafting.proofs.Laid.{wrote, one_more}
use Rattle.drafting.proofs.records.Goals as goal

pub loop-i-preserved : goal.loop-i-preserved
loop-i-preserved c =
    let args = c.args in
    let write = c.write in (
      write.auto.out ∙ c.loop-i.invariant.0,
      one_more args.m.now args.from args.room.now args.at c.loop-i.i (omega arith) c.loop-i.invariant.1
          (wrote (λ k. (c.slice_known-in-loop-i-1.given k).fits) write.auto.out (omega arith) (write.ensures.0 ∙ c.record.ensures.0) write.ensures.1),
    )
