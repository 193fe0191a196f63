-- The list of a clash stands in the room, behind the record's head.
-- Assumes nothing.
use Rattle.std.proofs.Common.{ap, arith}
use Rattle.promise.specs.Answered.{number_of, place_of}
use Rattle.promise.proofs.Unique.{answer-form}
use Rattle.typed.proofs.judge_sheet.Goals as goal

pub slice_bounds-print_clash-count : goal.slice_bounds-print_clash-count
slice_bounds-print_clash-count g c =
    let clash = c.in-Clashes.is in
    omega (arith, answer-form c.judge.ensures (omega (arith, ap number_of clash)), ap place_of clash)

pub slice_bounds-print_clash-start : goal.slice_bounds-print_clash-start
slice_bounds-print_clash-start g c =
    let clash = c.in-Clashes.is in
    omega (arith, answer-form c.judge.ensures (omega (arith, ap number_of clash)), ap place_of clash)

pub slice_bounds-print_clash-end : goal.slice_bounds-print_clash-end
slice_bounds-print_clash-end g c =
    let clash = c.in-Clashes.is in
    omega (arith, c.judge.auto.room, answer-form c.judge.ensures (omega (arith, ap number_of clash)), ap place_of clash)
