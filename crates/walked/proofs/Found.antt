-- In an exact table each cell is the total of a walk of few bounds, than which none is tighter: what it is of a tie, and of a bound that is
-- refused.
-- Assumes nothing.
use Prim.Native.Nat.{ℕ, ◌+◌, ◌-◌, ◌*◌, ◌≤◌, ◌<◌}
use mathlib.Core.Path.{◌≡◌}
use mathlib.Core.List.{List}
use mathlib.Core.Logic.{⊎_elim}
use lib.IntN.{ℤ, neg_ℤ}
use native.Mathlib.Omega.{arith}
use Rattle.whole.specs.Whole.{plus, minus}
use Rattle.whole.proofs.Parts.{neg-plus, neg-minus}
use Rattle.kind.specs.Code.{none, base, sum_of, Within}
use Rattle.kind.specs.Kind.{Kind, weak, under_zero, added, kind_of}
use Rattle.kind.proofs.Codes.{addable}
use Rattle.kind.proofs.Kind.{kind-sum, kind-three, kind-is}
use Rattle.closure.specs.Closed.{Closed, TiedAt}
use Rattle.closure.specs.Walk.{Tight, Walk, Reached}
use Rattle.closure.specs.Table.{step, reach}
use Rattle.closure.proofs.Order.{tight-trans, tight-antisym, tight-code}
use Rattle.whole.proofs.Pigeon.{pigeon}
use Rattle.closure.proofs.Relax.{Sums}
use Rattle.closure.proofs.Short.{kinds, shorten, below, least}
use Rattle.closure.proofs.Table.{sums-of}
use Rattle.closure.proofs.Ties.{round}
use Rattle.walked.specs.Borne.{Exact, Few}

module _ (N : ℕ) (E : ℕ → ℕ → Kind → Type 0) (d : ℕ → ℕ → ℕ) (X : Exact N E d) where
  C : Closed N (reach N) d
  C = X.table.closed

  S : Sums N (kinds d)
  S = sums-of N d C

  -- no walk over E is tighter than its cell
  pub no-tighter : (i k : ℕ) {t : Kind} {ps : List ℕ} → i < N → k < N → Walk E i k t ps → Tight (kind_of (d i k)) t
  no-tighter i k p q w = least N d S E X.held p q w

  -- and one with fewer bounds than there are points comes to it
  pub shortest : (i k : ℕ) → i < N → k < N → d i k < none → Few E (N - 1) i k (kind_of (d i k))
  shortest i k p q l = ⊎_elim (λ m. absurd (omega arith)) found (X.borne.walked i k p q)
    where
      found : Reached E i k (kind_of (d i k)) → Few E (N - 1) i k (kind_of (d i k))
      found r =
          let s = shorten N d S E X.held r.walk in
          let w = s.way.walk in
          let e : kind_of (d i k) ≡ s.way.total =
          tight-antisym _ _ (no-tighter i k p q w) (tight-trans _ _ _ s.way.tight r.tight) in
          record {
            points = s.way.points;
            walk = rw e w;
            few = omega (arith, pigeon N s.distinct (below N d S E X.held p w));
          }

  -- between two points tied at c the cells are c and -c, not strict
  module _ (i j : ℕ) (c : ℤ) (i< : i < N) (j< : j < N) (t : TiedAt d i j c) where
    equal : (d i j + 2 * minus c ≡ base + 2 * plus c) × (d j i + 2 * plus c ≡ base + 2 * minus c)
    equal =
        let r = round N (reach N) d C i j i< j< t.to.there t.back.there in
        let p : d i j + 2 * minus c ≤ base + 2 * plus c = t.to.bound in
        let q : d j i + 2 * plus c ≤ base + 2 * minus c = t.back.bound in
        (omega arith, omega arith)

    pub kind-to : kind_of (d i j) ≡ weak c
    kind-to = kind-is (d i j) 0 c t.to.there (omega arith) (omega (arith, equal.0))

    pub kind-back : kind_of (d j i) ≡ weak (neg_ℤ c)
    kind-back = kind-is (d j i) 0 (neg_ℤ c) t.back.there (omega arith) (omega (arith, equal.1, neg-plus c, neg-minus c))

  -- a bound that is refused adds up, with the way back, to less than zero
  pub under : (a b g : ℕ) → a < N → b < N → Within step g → sum_of g (d b a) < base
      → Tight (added (kind_of g) (kind_of (d b a))) under_zero
  under a b g a< b< near u =
      let e = kind-sum g (d b a) (addable step (reach N) _ _ (omega (arith, C.small)) near (C.range b a b< a<)) in
      rw e at (rw kind-three.2 at (tight-code (sum_of g (d b a)) (base - 1) (omega arith)))
