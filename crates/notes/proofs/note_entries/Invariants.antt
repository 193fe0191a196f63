-- `notes::note_entries` meets its contract: the place behind the bounds stays within the memory.
-- Assumes nothing.
use Prim.Native.Nat.{◌≤◌}
use mathlib.Core.Path.{◌≡◌}
use lib.ListN.{length}
use Rattle.notes.specs.Limits.{memory}
use Rattle.notes.proofs.note_entries.Given as goal

abbrev pub invariant-loop-e : goal.invariant-loop-e
invariant-loop-e l = (length l.m ≡ length l.initial.m) × (l.at ≤ memory)
