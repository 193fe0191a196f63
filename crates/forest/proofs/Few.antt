-- Ties between different groups are fewer than the points: each takes a label away for good, and those left are others.
-- Assumes nothing.
use Prim.Native.Nat.{ℕ, zero, suc, ◌+◌, ◌≤◌, ◌<◌}
use mathlib.Core.Path.{◌≡◌, refl, sym, ap, ◌∙◌}
use mathlib.Core.List.Memᴰ.{head as here}
use mathlib.Core.List.Memᴰ.{not-nil}
use mathlib.Core.List.Memᴰ.{tail as later}
use mathlib.Core.List.{List, [], ◌∷◌, Memᴰ as In}
use lib.ListN.{length}
use native.Mathlib.Omega.{arith}
use Rattle.whole.proofs.Pigeon.{Distinct, end, more, pigeon}
use Rattle.cells.specs.Cells.{cell}
use Rattle.sketch.specs.Sketch.{left, right}
use Rattle.forest.specs.Labels.{Labelled}
use Rattle.forest.proofs.Rows.{relabelled-keeps, relabelled-drops, labelled-less, labelled-next}

-- the labels that the first t ties took away
lost : (ties labels : List ℕ) → ℕ → List ℕ
lost ties labels zero = []
lost ties labels (suc t) = cell labels t (right ties t) ∷ lost ties labels t

length-lost : (ties labels : List ℕ) (t : ℕ) → length (lost ties labels t) ≡ t
unfolding lost
length-lost ties labels zero = refl
length-lost ties labels (suc t) = ap suc (length-lost ties labels t)

module _ {n : ℕ} {ties labels : List ℕ} where
  pub label< : (t i : ℕ) → Labelled n ties labels t → i < n → cell labels t i < n
  label< zero i L l = rw (L.begun i l) l
  label< (suc t) i L l =
      let L' : Labelled n ties labels t = labelled-less (omega arith) L in
      rw (labelled-next L i l) (relabelled-keeps (cell labels t) (left ties t) (right ties t) (λ x. x < n) i
      (label< t _ L' (L.left< t (omega arith))) (label< t i L' l))

  -- no point of row t has such a label
  gone : (t : ℕ) → Labelled n ties labels t → (x : ℕ) → In x (lost ties labels t) → (i : ℕ) → i < n → cell labels t i ≡ x → ⊥
  unfolding lost
  gone zero L x m i l e = not-nil m
  gone (suc t) L x (here f) i l e =
      relabelled-drops (cell labels t) (left ties t) (right ties t) i (L.apart t (omega arith)) (sym (labelled-next L i l) ∙ e ∙ f)
  gone (suc t) L x (later m) i l e =
      let G = gone t (labelled-less (omega arith) L) x m in
      relabelled-keeps (cell labels t) (left ties t) (right ties t) (λ y. y ≡ x → ⊥) i (G _ (L.left< t (omega arith))) (G i l)
      (sym (labelled-next L i l) ∙ e)

  points : (t : ℕ) → Labelled n ties labels t → (x : ℕ) → In x (lost ties labels t) → x < n
  unfolding lost
  points zero L x m = absurd (not-nil m)
  points (suc t) L x (here e) = rw e (label< t _ (labelled-less (omega arith) L) (L.right< t (omega arith)))
  points (suc t) L x (later m) = points t (labelled-less (omega arith) L) x m

  distinct : (t : ℕ) → Labelled n ties labels t → Distinct (lost ties labels t)
  unfolding lost
  distinct zero L = end
  distinct (suc t) L =
      let L' : Labelled n ties labels t = labelled-less (omega arith) L in
      more (λ m. gone t L' _ m _ (L.right< t (omega arith)) refl) (distinct t L')

  -- a label that a point has, with those lost
  module _ {t a : ℕ} (L : Labelled n ties labels t) (l : a < n) where
    one_left : Distinct (cell labels t a ∷ lost ties labels t)
    one_left = more (λ m. gone t L _ m a l refl) (distinct t L)

    one-point : (x : ℕ) → In x (cell labels t a ∷ lost ties labels t) → x < n
    one-point x (here e) = rw e (label< t a L l)
    one-point x (later m) = points t L x m

  pub few : {t : ℕ} → 1 ≤ n → Labelled n ties labels t → t < n
  few {t} h L = omega (arith, pigeon n (one_left {a = 0} L (omega arith)) (one-point L (omega arith)), length-lost ties labels t)

  pub few-more : {t a b : ℕ} → Labelled n ties labels t → a < n → b < n → (cell labels t a ≡ cell labels t b → ⊥) → t + 1 < n
  few-more {t} {a} {b} L l m h = omega (arith, pigeon n (more apart (one_left L m)) both, length-lost ties labels t)
    where
      apart : In (cell labels t a) (cell labels t b ∷ lost ties labels t) → ⊥
      apart (here e) = h e
      apart (later k) = gone t L _ k a l refl

      both : (x : ℕ) → In x (cell labels t a ∷ cell labels t b ∷ lost ties labels t) → x < n
      both x (here e) = rw e (label< t a L l)
      both x (later k) = one-point L m x k
