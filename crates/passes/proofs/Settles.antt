-- Passes until nothing is new: what the loop keeps, that it ends, and what it answers.
-- Assumes nothing.
use Prim.Native.Nat.{ℕ}
use mathlib.Core.Path.{refl, sym}
use mathlib.Core.Bool.{Bool, true, false, true≢false}
use mathlib.Core.List.{List}
use Rattle.cells.specs.Cells.{cell}
use Rattle.cells.proofs.Keeps.{kept_on}
use Rattle.sheet.specs.Sheet.{Sheet}
use Rattle.settled.specs.Settled.{points, Saturated}
use Rattle.steps.specs.Step.{Stepped}
use Rattle.steps.proofs.Steps.{arrived}
use Rattle.std.specs.Prelude.{Result, Ok, Err}
use Rattle.pairs.specs.declared.Clash.{Clash}
use Rattle.pairs.specs.Passing.{FunctionsTrue, AllTied, Passing, clash, tied, still}
use Rattle.pairs.proofs.Passes.{Passes, on}
use Rattle.pairs.proofs.Pairs.{saturated}

module _ (s : Sheet) where
  -- a pass over all pairs of terms, after some that tied something each
  abbrev Pass : List ℕ → List ℕ → Result Bool Clash → Type 0
  Pass = Passing s (AllTied s)

  pub goes_on : {old d new : List ℕ} → Passes s old d → Pass d new (Ok true) → Passes s old new
  goes_on p (tied w k l) = on s p (arrived k w)

  pub clashes : {old d new : List ℕ} {e : Clash} → Passes s old d → Pass d new (Err e) → Stepped (points s) (FunctionsTrue s) (Saturated s) old new false
  clashes p (clash R K) =
      record {
        went = λ f. absurd (true≢false (sym f));
        refuted = λ f D v D> M q. R D v D> ((p.went refl).met D v D> M q) q;
        kept = kept_on p.kept K;
      }

  pub ended : {old d new : List ℕ} → Passes s old d → Pass d new (Ok false) → Stepped (points s) (FunctionsTrue s) (Saturated s) old new true
  ended {d = d} p (still q) =
      let W = p.went refl in
      arrived p.kept (record { table = W.table; tighter = W.tighter; met = W.met; there = saturated s (cell d) W.table.closed q })
