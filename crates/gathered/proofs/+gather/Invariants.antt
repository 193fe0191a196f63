-- `gathered::gather` meets its contract.
-- The measure is the step's number. The loop's invariant: the ties of the set below `from` are gathered, if all was gathered below the step before.
-- Assumes nothing.
use Prim.Native.Nat.{◌≤◌, ◌-◌}
use mathlib.Core.Path.{◌≡◌}
use lib.ListN.{length}
use Rattle.sheet.specs.Decode.{sheet_of}
use Rattle.stated.specs.Said.{steps_of}
use Rattle.gathered.specs.Gathers.{Through}
use Rattle.gathered.proofs.Gathering.{Partly}
use Rattle.gathered.proofs.+gather.Given as goal

abbrev pub decreases-gather : goal.decreases-gather
decreases-gather l = l.at

abbrev pub invariant-loop-t : goal.invariant-loop-t
invariant-loop-t l = record {
  entries-size : length l.entries ≡ 256;
  walked-size : length l.walked ≡ 2;
  within : l.from ≤ 128;
  partly : Through (sheet_of l.sheet) (steps_of l.steps) l.at l.initial.entries l.initial.walked →
      Partly (sheet_of l.sheet) (steps_of l.steps) l.at l.ties l.from l.initial.entries l.initial.walked l.entries l.walked;
}

abbrev pub decreases-loop-t : goal.decreases-loop-t
decreases-loop-t l = 128 - l.from
