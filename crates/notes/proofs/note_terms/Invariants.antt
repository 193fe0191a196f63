-- `notes::note_terms` meets its contract: no more applications than terms so far.
-- Assumes nothing.
use Prim.Native.Nat.{◌+◌, ◌≤◌}
use mathlib.Core.Path.{◌≡◌}
use lib.ListN.{length}
use Rattle.notes.specs.Limits.{applications_at, memory}
use Rattle.notes.proofs.note_terms.Given as goal

abbrev pub invariant-loop-i : goal.invariant-loop-i
invariant-loop-i l = (length l.m ≡ length l.initial.m) × (l.at ≤ memory) × (l.applied ≤ applications_at + l.i)
