-- What a sheet asks beyond its terms: the entries' bounds, equalities passed on, and no ≠ entry broken.
-- Assumes nothing.
use Prim.Native.Nat.{ℕ, ◌≤◌, ◌<◌}
use mathlib.Core.Path.{◌≡◌}
use mathlib.Core.Bool.{Bool, true, false}
use mathlib.Core.List.{List}
use lib.IntN.{ℤ}
use native.Mathlib.Omega.{arith}
use Rattle.cells.specs.Cells.{cell}
use Rattle.order.specs.First.{Set}
use Rattle.sheet.specs.Sheet.{Sheet, entry_at, WellFormed}
use Rattle.settled.specs.Settled.{points}
use Rattle.settled.proofs.Held.{tied-met}
use Rattle.steps.specs.Step.{Met}
use Rattle.steps.specs.True.{EntriesPut}
use Rattle.steps.proofs.Steps.{followed, entry-tighter}
use Rattle.ties.specs.Ties.{Checked}
use Rattle.pairs.specs.Passing.{FunctionsPut}
use Rattle.verdict.specs.Entered.{RestTrue, RestPut, EnteredPut}

module _ (s : Sheet) (S : Set) (W : WellFormed s) {old new : List ℕ} {r : Bool} (A : FunctionsPut s old new r) where
  module _ (e : r ≡ true) {sound : Bool} (B : Checked s S (cell new) sound) where
    -- a ≠ entry's terms that the table ties at its c are apart by c in whatever meets the table
    none : sound ≡ false → (D : ℕ) (v : ℕ → ℤ) → 1 ≤ D → Met (points s) D (cell old) v → RestTrue s S D v → ⊥
    none f D v D> M q =
        let b = B.broken f in
        let T : Met (points s) D (cell new) v = (A.went e).met D v D> M q.functions in
        let l : (entry_at s b.e).a < points s = omega (arith, W.left b.e b.below) in
        let k : (entry_at s b.e).b < points s = omega (arith, W.right b.e b.below) in
        (rw b.broken.is-unequal at (q.entries.entries b.e b.below b.marked))
        (tied-met _ b.broken.tied (T.met _ _ l k) (T.met _ _ k l))

    pub passed : RestPut s S old new sound
    passed =
        let G = A.went e in
        record {
          went = λ f.
              record { table = G.table; tighter = G.tighter; met = λ D v D> M q. G.met D v D> M q.functions; there = record { saturated = G.there; apart = B.apart f } };
          refuted = none;
          kept = A.kept;
        }

-- and the entries before it
module _ (s : Sheet) (S : Set) (W : WellFormed s) {old mid : List ℕ} {r : Bool} (A : EntriesPut s S old mid r) where
  pub entered : r ≡ true → {new : List ℕ} {b : Bool} → RestPut s S mid new b → EnteredPut s S old new b
  entered e =
      followed (λ D v q. q.entries) (λ D v q. q)
      (λ d e t p q.
      record {
        entries =
            record {
              entries = λ k k< h. entry-tighter t (entry_at s k) (omega (arith, W.left k k<)) (omega (arith, W.right k k<)) (p.entries k k< h);
            };
        rest = q;
      })
      A.kept (A.went e)
