-- `writing::holds` meets its contract: after i turns, the first i values stand behind the head.
-- Assumes nothing.
use Rattle.std.proofs.Common.{◌≡◌, refl, ◌∙◌, arith}
use Rattle.answer.proofs.Values.{value_written}
use Rattle.writing.proofs.Fill.{fill_none, fill_more, recorded}
use Rattle.writing.proofs.holds.Goals as goal

pub loop-i-init : goal.loop-i-init
loop-i-init c = record { bytes = λ k. (c.type_inv.room k).fits; filled = fill_none _ _ }

pub loop-i-preserved : goal.loop-i-preserved
loop-i-preserved c =
    let level = c.type_inv.v c.loop-i.i in
    let zero_level = c.type_inv.v c.args.t in
    let e = value_written c.args.v.now c.args.t c.loop-i.i (omega arith) zero_level.fits (omega arith) in record {
      bytes = λ k. (c.type_inv.room k).fits;
      filled = fill_more c.loop-i.invariant.filled (c.write.ensures.0 ∙ e, c.write.ensures.1);
    }

pub returns : goal.returns
returns c =
    let end : c.loop-i.i ≡ c.args.t = omega arith in record {
      length = refl;
      written = recorded _ _ _ c.loop-i.invariant.bytes (omega arith) c.head.ensures (rw end at c.loop-i.invariant.filled);
    }
