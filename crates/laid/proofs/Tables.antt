-- Tables that rest on listed bounds: more bounds make no tie looser, two bounds of gap 0 there and back are a tie, and so are points that
-- ties put in one group.
-- Assumes nothing.
use Prim.Native.Nat.{ℕ, zero, suc, ◌≤◌, ◌<◌}
use mathlib.Core.Path.{◌≡◌, sym, ◌∙◌, subst}
use mathlib.Core.List.{List}
use mathlib.Core.Logic.{⊎_elim}
use lib.IntN.{pos}
use native.Mathlib.Omega.{arith}
use native.Mathlib.Decide.{ℕ_discrete}
use Rattle.kind.specs.Code.{base, none}
use Rattle.kind.specs.Kind.{Kind, zero_gap, kind_of}
use Rattle.kind.proofs.Kind.{kind-three}
use Rattle.closure.specs.Closed.{Closed, AtMost, TiedAt}
use Rattle.closure.specs.Walk.{Among, Reached}
use Rattle.closure.proofs.Order.{tight-trans, code-tight}
use Rattle.closure.proofs.Walks.{reached-more}
use Rattle.cells.specs.Cells.{cell}
use Rattle.ties.proofs.Zero.{tied_back, tied_on, tied-self}
use Rattle.walked.specs.Borne.{Exact}
use Rattle.walked.proofs.Found.{no-tighter}
use Rattle.layers.specs.Bounds.{bounds, Listed}
use Rattle.layers.specs.declared.Bound.{Bound}
use Rattle.sketch.specs.Sketch.{left, right}
use Rattle.forest.specs.Labels.{Labelled}
use Rattle.forest.proofs.Rows.{relabelled-joined, labelled-less, labelled-next}

pub listed_more : {list : List Bound} {e f : ℕ} → e ≤ f → Among (Listed (bounds e list)) (Listed (bounds f list))
listed_more h = record { more = λ l. record { number = l.number; there = omega (arith, l.there); starts = l.starts; ends = l.ends; gap = l.gap } }

-- over more bounds, each cell is at least as tight
module _ {N : ℕ} {E F : ℕ → ℕ → Kind → Type 0} {d d' : ℕ → ℕ → ℕ} (A : Among E F) (X : Exact N E d) (X' : Exact N F d') where
  tighter : (i j : ℕ) → i < N → j < N → d' i j ≤ d i j
  tighter i j i< j< = ⊎_elim (λ m. omega (arith, top)) walked (X.borne.walked i j i< j<)
    where
      top : d' i j ≤ none
      top = (X'.table.closed.range i j i< j<).top

      walked : Reached E i j (kind_of (d i j)) → d' i j ≤ d i j
      walked r =
          let w = reached-more A r in
          code-tight _ _ top (tight-trans _ _ _ (no-tighter N F d' X' i j i< j< w.walk) w.tight)

  at-most-more : (i j : ℕ) → i < N → j < N → AtMost d i j 0 0 → AtMost d' i j 0 0
  at-most-more i j i< j< h = let l = tighter i j i< j< in record { there = omega (arith, h.there); bound = omega (arith, h.bound) }

  pub tied-more : {i j : ℕ} → i < N → j < N → TiedAt d i j (pos 0) → TiedAt d' i j (pos 0)
  tied-more {i} {j} i< j< t = record { to = at-most-more i j i< j< t.to; back = at-most-more j i j< i< t.back }

-- a bound of gap 0
module _ {N : ℕ} {E : ℕ → ℕ → Kind → Type 0} {d : ℕ → ℕ → ℕ} (X : Exact N E d) where
  at-most-zero : (i j : ℕ) → E i j zero_gap → AtMost d i j 0 0
  at-most-zero i j e =
      let h = X.held.more e in
      let l : d i j ≤ base = code-tight (d i j) base (X.table.closed.range i j h.from h.to).top (rw kind-three.1 h.held) in
      record { there = omega arith; bound = omega arith }

  pub tied-zero : {i j : ℕ} → E i j zero_gap → E j i zero_gap → TiedAt d i j (pos 0)
  tied-zero {i} {j} e f = record { to = at-most-zero i j e; back = at-most-zero j i f }

-- where all ties laid are ties of a table, only points that it ties are in one group
abbrev Grouped : (N : ℕ) (labels : List ℕ) (d : ℕ → ℕ → ℕ) → ℕ → Type 0
Grouped N labels d t = (i j : ℕ) → i < N → j < N → cell labels t i ≡ cell labels t j → TiedAt d i j (pos 0)

module _ {N R : ℕ} {d : ℕ → ℕ → ℕ} (C : Closed N R d) {ties labels : List ℕ} where
  one_more : {t : ℕ} → Labelled N ties labels (suc t) → TiedAt d (left ties t) (right ties t) (pos 0) → Grouped N labels d t
      → Grouped N labels d (suc t)
  one_more {t} L T G i j i< j< e = go (ℕ_discrete (cell labels t i) (cell labels t j))
    where
      a< : left ties t < N
      a< = L.left< t (omega arith)

      b< : right ties t < N
      b< = L.right< t (omega arith)

      go : Dec (cell labels t i ≡ cell labels t j) → TiedAt d i j (pos 0)
      go (yes f) = G i j i< j< f
      go (no n) =
          ⊎_elim (λ s. tied_on C i< a< j< (G _ _ i< a< s.0) (tied_on C a< b< j< T (G _ _ b< j< s.1)))
          (λ s. tied_on C i< b< j< (G _ _ i< b< s.0) (tied_on C b< a< j< (tied_back T) (G _ _ a< j< s.1)))
          (relabelled-joined (cell labels t) (left ties t) (right ties t) i j n (sym (labelled-next L i i<) ∙ e ∙ labelled-next L j j<))

  pub group-tied : (t : ℕ) → Labelled N ties labels t → ((u : ℕ) → u < t → TiedAt d (left ties u) (right ties u) (pos 0)) → Grouped N labels d t
  group-tied zero L T i j i< j< e =
      let f : i ≡ j = sym (L.begun i i<) ∙ e ∙ L.begun j j< in
      subst (λ (k : ℕ). TiedAt d i k (pos 0)) f (tied-self C i<)
  group-tied (suc t) L T i j i< j< e =
      one_more L (T t (omega arith)) (group-tied t (labelled-less (omega arith) L) (λ u l. T u (omega arith))) i j i< j< e
