-- `legs::lay_terms` meets its contract: the legs of the terms before the counter are laid (proofs/Laid.antt).
-- Assumes nothing.
use Prim.Native.Nat.{◌<◌}
use mathlib.Core.Path.{◌≡◌}
use Rattle.sheet.specs.Sheet.{count_terms}
use Rattle.legs.specs.Legs.{LaidTerms}
use Rattle.legs.proofs.lay_terms.Given as goal

abbrev pub invariant-loop-i : goal.invariant-loop-i
invariant-loop-i l =
    (l.count < 256) × (l.count ≡ count_terms l.sheet) × LaidTerms l.sheet l.i l.initial.legs l.legs
