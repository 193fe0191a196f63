-- `surveyor::go_through` meets its contract. The loop's invariant: the first n steps have passed.
-- Assumes nothing.
use Rattle.sheet.specs.Decode.{sheet_of}
use Rattle.surveyor.specs.Inside.{Passed, TiesLaid}
use Rattle.surveyor.proofs.go_through.Given as goal

abbrev pub invariant-loop-n : goal.invariant-loop-n
invariant-loop-n l = record {
  passed : Passed (sheet_of l.sheet) l.listed l.steps l.n l.legs l.links l.paths;
  laid : TiesLaid l.initial.legs l.legs;
}
