-- `inputs::pass` meets its contract: the place behind the bounds stays within the memory.
-- Assumes nothing.
use Prim.Native.Nat.{◌≤◌}
use mathlib.Core.Path.{◌≡◌}
use lib.ListN.{length}
use Rattle.notes.specs.Limits.{memory}
use Rattle.inputs.proofs.pass.Given as goal

abbrev pub invariant-loop-k : goal.invariant-loop-k
invariant-loop-k l = (length l.m ≡ length l.initial.m) × (l.end ≤ memory)
