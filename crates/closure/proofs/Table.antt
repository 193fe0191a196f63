-- A table that bounds were put in starts with none, and takes each one more that closes no walk under zero.
-- Assumes nothing.
use Prim.Native.Nat.{ℕ, ◌+◌, ◌*◌, ◌≤◌, ◌<◌}
use mathlib.Core.Path.{◌≡◌, ◌∙◌, ap}
use mathlib.Core.Logic.{◌⊎◌, inl, inr, ⊎_elim}
use native.Mathlib.Decide.{ℕ_discrete}
use native.Mathlib.Omega.{arith}
use Rattle.whole.proofs.Order.{order}
use Rattle.kind.specs.Code.{none, base, half, sum_of, Within}
use Rattle.kind.specs.Kind.{Kind, zero_gap, added, kind_of}
use Rattle.kind.proofs.Codes.{addable, sum-within, sum-none-left, sum-none-right, zero-sum}
use Rattle.kind.proofs.Kind.{kind-sum, kind-three}
use Rattle.closure.specs.Closed.{Closed, RelaxedBy}
use Rattle.closure.specs.Walk.{Reached, Among}
use Rattle.closure.specs.Walk.Walk.{stop}
use Rattle.closure.specs.Table.{step, reach, Held, Table}
use Rattle.closure.proofs.Kept.{relaxed-holds}
use Rattle.closure.proofs.Order.{tight-refl, tight-same, tight-code, code-tight, added-assoc}
use Rattle.closure.proofs.Range.{near-code}
use Rattle.closure.proofs.Relax.{Sums, Relaxed, sums}
use Rattle.closure.proofs.Short.{kinds, range}
use Rattle.closure.proofs.Walks.{reached, first, joined, reached-more, held-less}

none_within : (w g : ℕ) → g ≡ none → Within w g
none_within w g e = record { low = omega arith; high = λ p. omega arith; top = omega arith }

kind-add : (v w x y : ℕ) → v + w < half → Within v x → Within w y → kind_of (sum_of x y) ≡ added (kind_of x) (kind_of y)
kind-add v w x y l p q = kind-sum x y (addable v w x y l p q)

-- a closed table's gaps hold their sums: codes are only as large as the range lets them be, so sums of many are taken over gaps
pub sums-of : (N : ℕ) (d : ℕ → ℕ → ℕ) → Closed N (reach N) d → Sums N (kinds d)
sums-of N d C =
    record {
      low = λ i p. rw (C.same i p, kind-three.1) (tight-refl zero_gap);
      high = λ i p. rw (C.same i p, kind-three.1) (tight-refl zero_gap);
      tri = λ i j m p q r. tight-same _ (tight-code _ _ (C.tri i j m p q r))
          (kind-add (reach N) (reach N) _ _ (omega (arith, C.small)) (C.range i m p r) (C.range m j r q));
    }

-- in the table of no bounds the only walks are those that stay, whatever bounds walks go over
pub stays : (N : ℕ) (E : ℕ → ℕ → Kind → Type 0) (d : ℕ → ℕ → ℕ) → ((i : ℕ) → i < N → d i i ≡ base)
    → ((i j : ℕ) → i < N → j < N → (i ≡ j → ⊥) → d i j ≡ none) → (i j : ℕ) → i < N → j < N → (none ≤ d i j) ⊎ Reached E i j (kind_of (d i j))
stays N E d same apart i j p q = go (ℕ_discrete i j)
  where
    go : Dec (i ≡ j) → (none ≤ d i j) ⊎ Reached E i j (kind_of (d i j))
    go (yes e) = inr (rw (e, same j q, kind-three.1) (reached stop))
    go (no h) = inl (omega (arith, apart i j p q h))

-- the table of no bounds
pub fresh : (N : ℕ) (d : ℕ → ℕ → ℕ) → 4 * reach N < half → ((i : ℕ) → i < N → d i i ≡ base)
    → ((i j : ℕ) → i < N → j < N → (i ≡ j → ⊥) → d i j ≡ none) → Table N d
fresh N d small same apart =
    record {
      closed =
          record {
            same = same;
            tri = λ i j k p q r. tri i j k p q r (ℕ_discrete i k);
            range = λ i j p q. ranged i j p q (ℕ_discrete i j);
            small = small;
          };
      walked = stays N (Held N d) d same apart;
    }
  where
    ranged : (i j : ℕ) → i < N → j < N → Dec (i ≡ j) → Within (reach N) (d i j)
    ranged i j p q (yes e) = rw (e, same j q) (record { low = omega arith; high = λ l. omega arith; top = omega arith })
    ranged i j p q (no h) = none_within (reach N) (d i j) (apart i j p q h)

    top : (i j : ℕ) → i < N → j < N → d i j ≤ none
    top i j p q = (ranged i j p q (ℕ_discrete i j)).top

    tri : (i j k : ℕ) → i < N → j < N → k < N → Dec (i ≡ k) → d i j ≤ sum_of (d i k) (d k j)
    tri i j k p q r (yes e) = rw (e, same k r) (omega (arith, zero-sum (d k j) (top k j r q)))
    tri i j k p q r (no h) = omega (arith, top i j p q, sum-none-left (d i k) (d k j) (omega (arith, apart i k p r h)))

-- a bound of a sheet's size that closes no walk under zero
module _ (N : ℕ) (d new : ℕ → ℕ → ℕ) (a b g : ℕ) (a< : a < N) (b< : b < N) (g< : g < none) (near : Within step g) (ok : base ≤ sum_of g (d b a))
    (R : RelaxedBy N d new a b g) (T : Table N d) where
  C : Closed N (reach N) d
  C = T.closed

  -- the way from i to j over the bound
  abbrev by : ℕ → ℕ → ℕ
  by i j = sum_of (sum_of (d i a) g) (d b j)

  kind-by : (i j : ℕ) → i < N → j < N → kind_of (by i j) ≡ added (added (kinds d i a) (kind_of g)) (kinds d b j)
  kind-by i j p q =
      let r : Within (reach N) (d i a) = C.range i a p a< in
      kind-add (reach N + step) (reach N) _ _ (omega arith) (sum-within (reach N) step _ _ (omega arith) r near) (C.range b j b< q) ∙
      ap (λ (k : Kind). added k (kinds d b j)) (kind-add (reach N) step _ _ (omega arith) r near)

  pub less : (i j : ℕ) → i < N → j < N → new i j ≤ d i j
  less i j p q = omega (arith, R.at i j p q)

  ways : (i j : ℕ) → i < N → j < N → (new i j ≡ d i j) ⊎ (new i j ≡ by i j)
  ways i j p q = ⊎_elim (λ l. inl (omega (arith, R.at i j p q))) (λ l. inr (omega (arith, R.at i j p q))) (order (d i j) (by i j))

  relaxed-kinds : Relaxed N (kinds d) (kinds new) a b (kind_of g)
  relaxed-kinds =
      record {
        old = λ i j p q. tight-code _ _ (less i j p q);
        new = λ i j p q. tight-same _ (tight-code (new i j) (by i j) (omega (arith, R.at i j p q))) (kind-by i j p q);
        one = λ i j p q. ⊎_elim (λ e. inl (ap kind_of e)) (λ e. inr (ap kind_of e ∙ kind-by i j p q)) (ways i j p q);
      }

  new-sums : Sums N (kinds new)
  new-sums =
      sums N (kinds d) (kinds new) a b (kind_of g) a< b< (sums-of N d C) relaxed-kinds
      (tight-same _ (rw kind-three.1 at (tight-code base (sum_of g (d b a)) ok))
      (kind-add step (reach N) _ _ (omega arith) near (C.range b a b< a<)))

  pub bound : Held N new a b (kind_of g)
  bound =
      record {
        from = a<;
        to = b<;
        near = near-code step g g< near;
        held = tight-code _ _ (relaxed-holds N (reach N) d new a b g a< b< (omega arith) R C);
      }

  -- a new cell's walk is the old one's, or those to a and from b with the bound between them
  module _ {E F : ℕ → ℕ → Kind → Type 0} (A : Among E F) (e : F a b (kind_of g)) where
    new-way : {i j : ℕ} → i < N → j < N → (none ≤ d i a) ⊎ Reached E i a (kinds d i a)
        → (none ≤ d b j) ⊎ Reached E b j (kinds d b j) → (none ≤ by i j) ⊎ Reached F i j (kind_of (by i j))
    new-way {i} {j} p q (inl m) s = inl (omega (arith, sum-none-left (sum_of (d i a) g) (d b j) (omega (arith, sum-none-left (d i a) g m))))
    new-way {i} {j} p q (inr r) (inl m) = inl (omega (arith, sum-none-right (sum_of (d i a) g) _ m))
    new-way {i} {j} p q (inr r) (inr s) =
        inr (rw (kind-by i j p q, added-assoc) (joined (reached-more A r) (first (kind_of g) e (reached-more A s))))

    pub new-walked : ((i j : ℕ) → i < N → j < N → (none ≤ d i j) ⊎ Reached E i j (kinds d i j))
        → (i j : ℕ) → i < N → j < N → (none ≤ new i j) ⊎ Reached F i j (kinds new i j)
    new-walked w i j p q =
        ⊎_elim (λ f. rw f (⊎_elim (λ m. inl m) (λ r. inr (reached-more A r)) (w i j p q)))
        (λ f. rw f (new-way p q (w i a p a<) (w b j b< q)))
        (ways i j p q)

  walked : (i j : ℕ) → i < N → j < N → (none ≤ new i j) ⊎ Reached (Held N new) i j (kinds new i j)
  walked = new-walked (record { more = held-less new less }) bound T.walked

  new-range : (i j : ℕ) → i < N → j < N → Within (reach N) (new i j)
  new-range i j p q =
      let top : new i j ≤ none = omega (arith, less i j p q, (C.range i j p q).top) in
      ⊎_elim (λ m. none_within (reach N) (new i j) (omega arith)) (λ r. range N new new-sums (Held N new) (record { more = λ e. e }) i j p q top r) (walked i j p q)

  pub relaxed : Table N new
  relaxed =
      record {
        closed =
            record {
              same = λ i p.
                  let high : base ≤ new i i = code-tight base (new i i) (omega arith) (rw kind-three.1 (new-sums.high i p)) in
                  omega (arith, less i i p p, C.same i p);
              tri = λ i j m p q r. code-tight _ _ (new-range i j p q).top
                  (rw (kind-add (reach N) (reach N) _ _ (omega arith) (new-range i m p r) (new-range m j r q)) (new-sums.tri i j m p q r));
              range = new-range;
              small = C.small;
            };
        walked = walked;
      }
