-- `batch::reply` meets its contract: the room is the part behind three bytes, in which number and place are written.
-- Assumes nothing.
use Rattle.std.proofs.Common.{ap, ◌∙◌, length, arith}
use lib.ListN.{length-set}
use Rattle.sheet.specs.Limits.{room_needed}
use Rattle.promise.specs.Answered.{Answered}
use Rattle.framed.proofs.Framed.{replied-whole}
use Rattle.batch.proofs.reply.Goals as goal

pub returns : goal.returns
returns c =
    let long = ap length c.requires in
    let a = rw (c.requires, ← c.number.ensures, ← c.place.ensures) at c.judge-answer.ensures in
    record {
      answered = replied-whole (Answered _ _) 2 room_needed c.args.bytes.now c.judge-answer.new.room _ _ _ _ (omega arith) (omega arith)
          (c.write.auto.out ∙ simp length-set (omega (arith, long)) ∙ long) (omega arith) a c.write.ensures.0 c.write.ensures.1;
    }
