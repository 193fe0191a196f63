-- Passes one after the other: what a loop over them keeps, and what it answers.
-- Assumes nothing.
use Prim.Native.Nat.{ℕ, ◌<◌}
use mathlib.Core.Path.{refl}
use mathlib.Core.Bool.{Bool, true, false, ◌||◌}
use mathlib.Core.List.{List}
use native.Mathlib.Omega.{arith}
use Rattle.closure.specs.Table.{Table}
use Rattle.cells.specs.Cells.{cell}
use Rattle.cells.proofs.Keeps.{kept_on}
use Rattle.sheet.specs.Sheet.{Sheet}
use Rattle.settled.specs.Settled.{points}
use Rattle.steps.specs.Step.{Stepped}
use Rattle.steps.proofs.Steps.{Leaves, arrived, followed}
use Rattle.std.specs.Prelude.{Result, Ok, Err}
use Rattle.pairs.specs.declared.Clash.{Clash}
use Rattle.pairs.specs.Passing.{FunctionsTrue, total, Passing, clash, tied, still, passed_of}

module _ (s : Sheet) where
  -- a step that passes equalities on
  abbrev pub Passes : List ℕ → List ℕ → Type 0
  Passes old new = Stepped (points s) (FunctionsTrue s) (λ d. Unit) old new true

  pub on : {old mid new : List ℕ} → Passes old mid → Passes mid new → Passes old new
  on A B = followed (λ D v q. q) (λ D v q. q) (λ d e t p q. tt) A.kept (A.went refl) B

  -- what some passes came to: one of them tied something, or none did, and Q is true of the table
  pub data Sofar (Q : Leaves) (old : List ℕ) : List ℕ → Bool → Type 0 where
    fresh : {d : List ℕ} → Passes old d → total (points s) (cell d) < total (points s) (cell old) → Sofar Q old d true
    same : Table (points s) (cell old) → Q (cell old) → Sofar Q old old false

  pub sofar-table : {Q : Leaves} {old d : List ℕ} {b : Bool} → Sofar Q old d b → Table (points s) (cell d)
  sofar-table (fresh p l) = (p.went refl).table
  sofar-table (same T q) = T

  -- one more pass, that tied something or found nothing to do
  pub more : {Q Q' P : Leaves} {old d new : List ℕ} {b r : Bool} → (Q (cell d) → P (cell d) → Q' (cell d))
      → Sofar Q old d b → Passing s P d new (Ok r) → Sofar Q' old new (b || r)
  more f (fresh p l) (tied w k m) = fresh (on p (arrived k w)) (omega arith)
  more f (same T q) (tied w k m) = fresh (arrived k w) m
  more f (fresh p l) (still q) = fresh p l
  more f (same T h) (still q) = same T (f h q)

  -- what the loop answers
  pub ended : {Q P : Leaves} {old d : List ℕ} {b : Bool} → ((e : ℕ → ℕ → ℕ) → Q e → P e) → Sofar Q old d b → Passing s P old d (passed_of b)
  ended f (fresh p l) = tied (p.went refl) p.kept l
  ended f (same T h) = still (f _ h)

  -- a clash after some passes is one from the start
  pub clash-after : {Q P P' : Leaves} {old d new : List ℕ} {b : Bool} {e f : Clash} → Sofar Q old d b → Passing s P d new (Err e) → Passing s P' old new (Err f)
  clash-after (fresh p l) (clash R K) = clash (λ D v D> M q. R D v D> ((p.went refl).met D v D> M q) q) (kept_on p.kept K)
  clash-after (same T h) (clash R K) = clash R K

  -- what is true of the table where nothing was to be done follows from what a pass says of it
  pub passing-map : {P Q : Leaves} {old new : List ℕ} {r : Result Bool Clash} → (P (cell old) → Q (cell old)) → Passing s P old new r → Passing s Q old new r
  passing-map f (clash R K) = clash R K
  passing-map f (tied w k l) = tied w k l
  passing-map f (still p) = still (f p)
