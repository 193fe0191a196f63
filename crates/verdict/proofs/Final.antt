-- The parts of a verdict together: a table with all terms and entries in, saturated and with no ≠ entry broken, is settled and so the set
-- holds; a refusal on the way leaves no levels that meet the sheet, so the set clashes.
-- Assumes nothing.
use Prim.Native.Nat.{ℕ, ◌+◌, ◌<◌}
use mathlib.Core.Path.{◌≡◌, refl}
use mathlib.Core.Bool.{Bool, true, false}
use mathlib.Core.List.{List}
use lib.IntN.{ℤ}
use native.Mathlib.Decide.{ℕ_discrete}
use native.Mathlib.Omega.{arith}
use Rattle.kind.specs.Meets.{Meets}
use Rattle.kind.proofs.Laws.{meets-zero, meets-none}
use Rattle.cells.specs.Cells.{cell, Kept}
use Rattle.cells.proofs.Keeps.{kept_on}
use Rattle.table.specs.Inserted.{Started}
use Rattle.order.specs.First.{Set}
use Rattle.sheet.specs.Sheet.{Sheet, count_terms, WellFormed}
use Rattle.settled.specs.Settled.{points, Settled}
use Rattle.settled.proofs.Meet.{settled-meets}
use Rattle.steps.specs.Step.{Met, Stepped}
use Rattle.steps.specs.True.{TermsHeld, TermsPut}
use Rattle.steps.proofs.Steps.{Leaves, changed, followed, term-tighter}
use Rattle.writing.specs.declared.Verdict.TheVariants.{Clashes}
use Rattle.verdict.specs.Judged.{verdict_of, Judged}
use Rattle.verdict.specs.Entered.{EnteredHeld, EnteredPut}
use Rattle.verdict.proofs.Ground.{Model, no-model}

-- every level meets a table of no bounds
started-met : (n D : ℕ) (v : ℕ → ℤ) (old d : List ℕ) → Started n old d → Met n D (cell d) v
started-met n D v old d F = record { met = λ i j i< j<. go i j i< j< (ℕ_discrete i j) }
  where
    go : (i j : ℕ) → i < n → j < n → Dec (i ≡ j) → Meets D (cell d i j) (v i) (v j)
    go i j i< j< (yes e) = rw e (rw (F.same j j<) (meets-zero D (v j)))
    go i j i< j< (no ne) = rw (F.apart i j i< j< ne) (meets-none D (v i) (v j))

module _ (s : Sheet) (S : Set) (W : WellFormed s) where
  pub record All (d : ℕ → ℕ → ℕ) : Type 0 where
    pub terms : TermsHeld s (count_terms s) d
    pub entered : EnteredHeld s S d

  -- from a started table on, a step towards the verdict
  abbrev pub Toward : Leaves → List ℕ → List ℕ → Bool → Type 0
  Toward P = Stepped (points s) (Model s S) P

  pub with-terms : {old new : List ℕ} {r : Bool} → TermsPut s old new r → Toward (TermsHeld s (count_terms s)) old new r
  with-terms = changed (λ D v m. record { zero = m.zero; defined = m.meet.defined }) (λ d p. p)

  pub with-entered : {old mid new : List ℕ} {q r : Bool} → q ≡ true → Toward (TermsHeld s (count_terms s)) old mid q → EnteredPut s S mid new r
      → Toward All old new r
  with-entered e A =
      followed (λ D v m. m) (λ D v m. record { functions = record { functions = m.meet.functions }; entries = record { entries = m.meet.entries } })
      (λ d e t p q.
      record {
        terms = record { terms = λ i i<. term-tighter t (omega arith) (omega arith) (W.arguments i i<) (p.terms i i<) };
        entered = q;
      })
      A.kept (A.went e)

  module _ {m : ℕ} {old d : List ℕ} (m-is : m ≡ count_terms s) (F : Started (m + 1) old d) where
    -- every level meets the table that was started, which has m terms as the code counts them
    fresh-met : (D : ℕ) (v : ℕ → ℤ) → Met (points s) D (cell d) v
    fresh-met D v = rw (← m-is) (started-met (m + 1) D v old d F)

    kept : {P : Leaves} {new : List ℕ} {r : Bool} → Toward P d new r → Kept (points s) old new
    kept A = kept_on (rw m-is at F.kept) A.kept

    -- a refusal on the way
    pub refused : {P : Leaves} {new : List ℕ} {r : Bool} → Toward P d new r → r ≡ false → Judged s S (cell new) Clashes × Kept (points s) old new
    refused A f = (
      record {
        holds = λ e. absurd (omega arith);
        settled = λ e. absurd (omega arith);
        clashes = λ e. no-model s S W (λ D v M. A.refuted f D v M.meet.positive (fresh-met D v) M);
      },
      kept A,
    )

    module _ {new : List ℕ} {r : Bool} (A : Toward All d new r) where
      settled : r ≡ true → Settled s S (cell new)
      settled e =
          let G = A.went e in
          record {
            closed = G.table.closed;
            terms = G.there.terms.terms;
            entries = G.there.entered.entries.entries;
            functions = G.there.entered.rest.saturated;
            apart = G.there.entered.rest.apart;
          }

      judged : (b : Bool) → r ≡ b → Judged s S (cell new) (verdict_of b) × Kept (points s) old new
      judged true e = (
        record {
          holds = λ h. record { D = _; n = _; meet = settled-meets s S (cell new) W (settled e) };
          settled = λ h. settled e;
          clashes = λ h. absurd (omega arith);
        },
        kept A,
      )
      judged false e = refused A e

      -- the last step decides
      pub told : Judged s S (cell new) (verdict_of r) × Kept (points s) old new
      told = judged r refl
