-- `search::settle` meets its contract: the place behind the bounds stays within the memory.
-- Assumes nothing.
use Prim.Native.Nat.{◌≤◌}
use mathlib.Core.Path.{◌≡◌}
use lib.ListN.{length}
use Rattle.notes.specs.Limits.{memory}
use Rattle.search.proofs.settle.Given as goal

abbrev pub invariant-loop-turn : goal.invariant-loop-turn
invariant-loop-turn l = (length l.m ≡ length l.initial.m) × (l.end ≤ memory)
