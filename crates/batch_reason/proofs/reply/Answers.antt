-- `batch_reason::reply` meets its contract: the room is the part behind five bytes, in which number and place are written.
-- Assumes nothing.
use Rattle.std.proofs.Common.{ℕ, ◌+◌, ap, ◌∙◌, length, arith}
use lib.ListN.{length-set, length-replicate}
use Rattle.framed.proofs.Framed.{lent-full, replied}
use Rattle.paper.specs.Record.{reason_room}
use Rattle.reason.specs.Reasoned.{Reasoned}
use Rattle.batch_reason.proofs.reply.Goals as goal

pub returns : goal.returns
returns c =
    let long = ap length c.requires.1 ∙ length-replicate {A = ℕ} (5 + reason_room) 0xAA in
    let t = rw (lent-full 5 c.args.size reason_room 0xAA c.args.bytes.now c.requires.0 c.requires.1, ← c.number.ensures, ← c.place.ensures) at c.reason-told.ensures in
    let shape = c.write.auto.out ∙ simp length-set (omega (arith, long)) ∙ long in
    record {
      reasoned = replied (Reasoned _ _) 4 c.args.size c.args.bytes.now c.reason-told.new.room _ _ _ _ (omega arith) (omega arith)
          (omega (arith, shape)) (omega arith) t c.write.ensures.0 c.write.ensures.1;
    }
