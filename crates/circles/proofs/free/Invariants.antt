-- `circles::free` meets its contract.
-- Assumes nothing.
use Prim.Native.Nat.{◌<◌}
use mathlib.Core.Path.{◌≡◌}
use lib.ListN.{length}
use Rattle.notes.specs.Limits.{places}
use Rattle.circles.proofs.free.Given as goal

abbrev pub invariant-loop : goal.invariant-loop
invariant-loop l = (length l.m ≡ length l.initial.m) × (l.y < places)
