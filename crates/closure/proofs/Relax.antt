-- A table of gaps that holds its sums still does when it is relaxed by a bound that closes no walk under zero.
-- Assumes nothing.
use Prim.Native.Nat.{ℕ, ◌<◌}
use mathlib.Core.Path.{◌≡◌, sym, ◌∙◌, ap}
use mathlib.Core.Logic.{◌⊎◌, ⊎_elim}
use Rattle.kind.specs.Kind.{Kind, zero_gap, added}
use Rattle.closure.specs.Walk.{Tight}
use Rattle.closure.proofs.Order.{tight-refl, tight-trans, tight-same, added-comm, added-assoc, added-mono, grow}

left_comm : (x y z : Kind) → added x (added y z) ≡ added y (added x z)
left_comm x y z = sym (added-assoc x y z) ∙ ap (λ (w : Kind). added w z) (added-comm x y) ∙ added-assoc y x z

-- `Closed` over gaps of any size
pub record Sums (N : ℕ) (k : ℕ → ℕ → Kind) : Type 0 where
  pub low : (i : ℕ) → i < N → Tight (k i i) zero_gap
  pub high : (i : ℕ) → i < N → Tight zero_gap (k i i)
  pub tri : (i j m : ℕ) → i < N → j < N → m < N → Tight (k i j) (added (k i m) (k m j))

-- `RelaxedBy` over gaps of any size: `old` and `new` are its two ways to make a cell
pub record Relaxed (N : ℕ) (k l : ℕ → ℕ → Kind) (a b : ℕ) (g : Kind) : Type 0 where
  pub old : (i j : ℕ) → i < N → j < N → Tight (l i j) (k i j)
  pub new : (i j : ℕ) → i < N → j < N → Tight (l i j) (added (added (k i a) g) (k b j))
  pub one : (i j : ℕ) → i < N → j < N → (l i j ≡ k i j) ⊎ (l i j ≡ added (added (k i a) g) (k b j))

module _ (N : ℕ) (k l : ℕ → ℕ → Kind) (a b : ℕ) (g : Kind) (a< : a < N) (b< : b < N) (S : Sums N k) (R : Relaxed N k l a b g)
    (ok : Tight zero_gap (added g (k b a))) where
  -- a way from b back to a, after g, isn't under zero
  back : (m : ℕ) → m < N → Tight zero_gap (added g (added (k b m) (k m a)))
  back m p = tight-trans _ _ _ ok (added-mono _ _ _ _ (tight-refl g) (S.tri b a m b< a< p))

  high : (i : ℕ) → i < N → Tight zero_gap (l i i)
  high i p = ⊎_elim (λ e. rw e (S.high i p)) (λ e. rw e (simp (added-assoc, added-comm) (back i p))) (R.one i i p p)

  -- the four ways in which the two halves of a way from i to j over m are made
  module _ (i j m : ℕ) (p : i < N) (q : j < N) (r : m < N) where
    old-old : Tight (l i j) (added (k i m) (k m j))
    old-old = tight-trans _ _ _ (R.old i j p q) (S.tri i j m p q r)

    old-new : Tight (l i j) (added (k i m) (added (added (k m a) g) (k b j)))
    old-new =
        let t : Tight (added (k i a) g) (added (added (k i m) (k m a)) g) = added-mono _ _ _ _ (S.tri i a m p a< r) (tight-refl g) in
        tight-trans _ _ _ (R.new i j p q) (tight-same _ (added-mono _ _ _ _ t (tight-refl (k b j))) (simp (added-assoc, added-comm, left_comm)))

    new-old : Tight (l i j) (added (added (added (k i a) g) (k b m)) (k m j))
    new-old =
        tight-trans _ _ _ (R.new i j p q)
        (tight-same _ (added-mono _ _ _ _ (tight-refl (added (k i a) g)) (S.tri b j m b< q r)) (sym (added-assoc _ _ _)))

    new-new : Tight (l i j) (added (added (added (k i a) g) (k b m)) (added (added (k m a) g) (k b j)))
    new-new = tight-trans _ _ _ (R.new i j p q) (tight-same _ (grow _ _ (back m r)) (simp (added-assoc, added-comm, left_comm)))

    tri : Tight (l i j) (added (l i m) (l m j))
    tri =
        ⊎_elim (λ e. rw e (⊎_elim (λ f. rw f old-old) (λ f. rw f old-new) (R.one m j r q)))
        (λ e. rw e (⊎_elim (λ f. rw f new-old) (λ f. rw f new-new) (R.one m j r q)))
        (R.one i m p r)

  pub sums : Sums N l
  sums = record { low = λ i p. tight-trans _ _ _ (R.old i i p p) (S.low i p); high = high; tri = tri }
