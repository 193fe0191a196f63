-- `drafting::records` meets its contract: after i turns, the records of the first i cells are laid.
-- Assumes nothing.
use mathlib.Core.Path.{◌≡◌}
use lib.ListN.{length}
use lib.Seq.{sets}
use Rattle.drafting.proofs.Laid.{rows}
use Rattle.drafting.proofs.records.Given as goal

abbrev pub invariant-loop-i : goal.invariant-loop-i
invariant-loop-i l = (length l.room ≡ length l.initial.room) × (l.room ≡ sets l.initial.room l.at (rows l.m l.from l.i))
