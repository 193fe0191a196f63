-- The legs of one entry or term more, and those of all.
-- Assumes nothing.
use Prim.Native.Nat.{ℕ, ◌≤◌}
use mathlib.Core.Path.{◌∙◌}
use mathlib.Core.List.{List}
use native.Mathlib.Omega.{arith}
use Rattle.order.specs.First.{Set}
use Rattle.sheet.specs.Sheet.{Sheet, count_terms, count_entries}
use Rattle.legs.specs.Legs.{term_place, LaidEntries, LaidTerms, Laid}

pub all_laid : {s : Sheet} {listed : Set} {old between new : List ℕ} → count_entries s ≤ term_place →
    LaidEntries s listed (count_entries s) old between → LaidTerms s (count_terms s) between new → Laid s listed old new
all_laid few E T = record {
  size = T.size ∙ E.size;
  entries = λ e h. T.before e (omega arith) ∙ E.entries e h;
  between = λ k a b. T.before k b ∙ E.rest k a;
  terms = T.terms;
  rest = λ k h. T.rest k h ∙ E.rest k (omega arith);
}
