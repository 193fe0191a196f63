-- `lowering::follow` meets its contract: each place is one of the memory.
-- Assumes nothing.
use Prim.Native.Nat.{◌<◌}
use mathlib.Core.Path.{◌≡◌}
use lib.ListN.{length}
use Rattle.notes.specs.Limits.{memory}
use Rattle.lowering.proofs.follow.Given as goal

abbrev pub invariant-loop-steps : goal.invariant-loop-steps
invariant-loop-steps l = (length l.m ≡ length l.initial.m) × (l.k < memory)
