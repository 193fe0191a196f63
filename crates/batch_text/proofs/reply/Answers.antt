-- `batch_text::reply` meets its contract: the room is the part behind five bytes, in which number and place are written.
-- Assumes nothing.
use Rattle.std.proofs.Common.{ap, ◌∙◌, length, arith}
use lib.ListN.{length-set}
use Rattle.transcript.proofs.Place.{place-within}
use Rattle.transcript.specs.Transcribed.{Transcribed}
use Rattle.framed.proofs.Framed.{lent-full, replied}
use Rattle.batch_text.specs.Reply.{most_room, most_text}
use Rattle.batch_text.proofs.reply.Goals as goal

-- a place fits its four bytes
pub write-requires : goal.write-requires
write-requires c = (
  simp length-set (omega (arith, ap length c.requires.2)),
  omega (arith, place-within c.transcribe-typed.ensures most_text c.requires.0 (omega arith)),
)

pub returns : goal.returns
returns c =
    let long = ap length c.requires.2 in
    let t = rw (lent-full 5 c.args.size most_room 0xAA c.args.bytes.now c.requires.1 c.requires.2, ← c.number_of.ensures, ← c.place_of.ensures) at c.transcribe-typed.ensures in
    let shape = c.write.auto.out ∙ simp length-set (omega (arith, long)) ∙ long in
    record {
      transcribed = replied (Transcribed _ _) 4 c.args.size c.args.bytes.now c.transcribe-typed.new.room _ _ _ _ (omega arith) (omega arith)
          (omega (arith, shape)) (omega arith) t c.write.ensures.0 c.write.ensures.1;
    }
