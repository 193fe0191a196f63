-- The sheet of a text stands in the bytes that it is written to.
-- Assumes nothing.
use Rattle.std.proofs.Common.{sym, ap, arith, length-take-le}
use Rattle.transcript.specs.Transcribed.{number_of, place_of}
use Rattle.transcript.proofs.Place.{sheet-within}
use Rattle.typed.proofs.judge_text.Goals as goal

pub slice_bounds-bytes-end : goal.slice_bounds-bytes-end
slice_bounds-bytes-end g c =
    let sheet = c.in-Ok.is in
    omega (arith, c.transcribe.auto.room, sheet-within c.transcribe.ensures (omega (arith, ap number_of sheet)), ap place_of sheet)

pub slice_bounds-judge_sheet-end : goal.slice_bounds-judge_sheet-end
slice_bounds-judge_sheet-end g c =
    let sheet = c.in-Ok.is in
    sym (length-take-le c.in-Ok.size _ (omega (arith, c.transcribe.auto.room, sheet-within c.transcribe.ensures (omega (arith, ap number_of sheet)), ap place_of sheet)))
