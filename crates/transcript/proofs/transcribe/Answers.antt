-- `transcript::transcribe` meets its contract: the room, then the reader, then the writer.
-- Assumes nothing.
use native.Mathlib.Omega.{arith}
use Rattle.transcript.proofs.Join.{too_short, slipped-exit, transcribed}
use Rattle.transcript.proofs.transcribe.Goals as goal

pub returns-then-room-lt-ROOM : goal.returns-then-room-lt-ROOM
returns-then-room-lt-ROOM c = too_short (omega arith)

pub returns-in_err-l : goal.returns-in_err-l
returns-in_err-l c = slipped-exit _ _ c.from_residual.ensures.1 (omega arith) c.in_err-l.ensures

pub returns : goal.returns
returns c = transcribed c.in_ok-l.ensures (omega arith) c.sheet.ensures
