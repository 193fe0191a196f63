-- A saturated table over all listed bounds ties at 0 what the ties of a draft tie: those of functions since it is saturated, those by walks
-- since a table over fewer bounds does. So a ≠ entry on terms of one group that are tied at its c has c = 0.
-- Assumes nothing.
use Prim.Native.Nat.{ℕ, zero, suc, ◌≤◌, ◌<◌}
use mathlib.Core.Path.{◌≡◌, refl}
use mathlib.Core.List.{List}
use lib.IntN.{ℤ, pos, negsuc}
use lib.ListN.{get_or}
use native.Mathlib.Omega.{arith}
use native.Mathlib.Decide.{ℕ_discrete}
use Rattle.kind.specs.Kind.{weak, kind_of}
use Rattle.closure.specs.Closed.{Closed, TiedAt}
use Rattle.closure.specs.Table.{reach}
use Rattle.cells.specs.Cells.{stride, cell}
use Rattle.order.specs.First.{Set}
use Rattle.sheet.specs.Sheet.{Sheet, WellFormed}
use Rattle.meaning.proofs.Meaning.{same-input-below}
use Rattle.settled.specs.Settled.{points, Saturated}
use Rattle.walked.specs.Borne.{Exact}
use Rattle.walked.proofs.Found.{kind-to}
use Rattle.layers.specs.Bounds.{bounds, Listed}
use Rattle.layers.specs.declared.Bound.{Bound}
use Rattle.reasons.specs.Step.{Step}
use Rattle.reasons.specs.Rules.{Tied, TieWithin}
use Rattle.sketch.specs.Sketch.{how_of, left, right, Fits}
use Rattle.forest.proofs.Rows.{labelled-less}
use Rattle.forest.proofs.Groups.{tied-together}
use Rattle.laid.proofs.Tables.{listed_more, tied-more, group-tied}
use Rattle.drafted.specs.Drafted.{Drafted}

-- what a table ties at is small
pub tied-within : {N : ℕ} {d : ℕ → ℕ → ℕ} {i j : ℕ} → Closed N (reach N) d → (c : ℤ) → N ≤ stride → i < N → j < N → TiedAt d i j c → TieWithin c
tied-within {i = i} {j} C (pos n) h i< j< t = (omega (arith, (C.range j i j< i<).low, t.back.bound), omega arith)
tied-within {i = i} {j} C (negsuc n) h i< j< t = (omega arith, omega (arith, (C.range i j i< j<).low, t.to.bound))

module _ {s : Sheet} {S : Set} {list : List Bound} {names ties labels : List ℕ} {m listed count : ℕ} (W : WellFormed s)
    (D : Drafted s S list names ties labels m listed count) {d : ℕ → ℕ → ℕ}
    (X : Exact (points s) (Listed (bounds listed list)) d) (saturated : Saturated s d) where
  -- the first t ties are ties of the table
  abbrev TiesTied : ℕ → Type 0
  TiesTied t = (u : ℕ) → u < t → TiedAt d (left ties u) (right ties u) (pos 0)

  one-group : (t : ℕ) → t ≤ count → TiesTied t → (a b : ℕ) → a < points s → b < points s → cell labels t a ≡ cell labels t b → TiedAt d a b (pos 0)
  one-group t l T = group-tied X.table.closed t (labelled-less l D.laid.labelled) T

  next-tied : (t : ℕ) → t < count → TiesTied t → (how : ℕ) → how_of (get_or ties t 0) ≡ how → TiedAt d (left ties t) (right ties t) (pos 0)
  next-tied t l T zero how =
      let O = D.laid.of-functions t l how in
      let p = O.left< in
      let q = O.right< in
      saturated _ _ p q
      (same-input-below (left ties t) (right ties t) _ _ (W.arguments _ p) (W.arguments _ q)
      (λ a b a< b<. one-group t (omega arith) T a b (omega arith) (omega arith)) O.arguments)
  next-tied t l T (suc e) how =
      let (e<, B) = D.laid.by-walks t e l how in
      tied-more (listed_more (omega arith)) B.exact X (D.laid.labelled.left< t l) (D.laid.labelled.right< t l) B.tied

  ties-tied : (t : ℕ) → t ≤ count → TiesTied t
  ties-tied zero l u h = absurd (omega arith)
  ties-tied (suc t) l u h = go (ties-tied t (omega arith)) (ℕ_discrete u t)
    where
      go : TiesTied t → Dec (u ≡ t) → TiedAt d (left ties u) (right ties u) (pos 0)
      go T (yes e) = rw e (next-tied t (omega arith) T (how_of (get_or ties t 0)) refl)
      go T (no e) = T u (omega arith)

  -- what is tied by the draft's ties and by the table at c has c = 0
  pub tied-at-zero : {steps : List Step} {a b : ℕ} {c c' : ℤ} {path : List ℕ} → Fits ties count steps → Tied steps count a b c' path → a < points s →
      TiedAt d a b c → c ≡ pos 0
  tied-at-zero {a = a} {b} {c} F T a< t =
      let (b<, e, none) = tied-together D.laid.labelled F T a< in
      let z = one-group count (omega arith) (ties-tied count (omega arith)) a b a< b< e in
      let p : kind_of (d a b) ≡ weak c = kind-to _ _ d X a b c a< b< t in
      let q : kind_of (d a b) ≡ weak (pos 0) = kind-to _ _ d X a b (pos 0) a< b< z in
      cc
