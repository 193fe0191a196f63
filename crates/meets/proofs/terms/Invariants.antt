-- `meets::terms` meets its contract: the terms before the counter are as the meaning asks, and their keys are kept.
-- Assumes nothing.
use Prim.Native.Nat.{◌≤◌}
use Rattle.sheet.specs.Limits.{max_terms}
use Rattle.meets.specs.Parts.{TermsMet}
use Rattle.meets.proofs.Keyed.{Kept}
use Rattle.meets.proofs.terms.Given as goal

abbrev pub invariant-loop-i : goal.invariant-loop-i
invariant-loop-i l =
    (l.t ≤ max_terms) × Kept l.sheet l.v l.keys l.shelves l.i × TermsMet l.sheet l.d l.v l.i
