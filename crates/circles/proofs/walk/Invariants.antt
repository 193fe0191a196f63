-- `circles::walk` meets its contract: each step is from a point to a point.
-- Assumes nothing.
use Prim.Native.Nat.{◌<◌}
use mathlib.Core.Path.{◌≡◌}
use lib.ListN.{length}
use Rattle.notes.specs.Limits.{places}
use Rattle.circles.proofs.walk.Given as goal

abbrev pub invariant-loop : goal.invariant-loop
invariant-loop l = (length l.m ≡ length l.initial.m) × (l.x < places)
