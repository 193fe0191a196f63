-- Paths in the forest of ties: of one point, over one tie more, and between any two points of one label.
-- Assumes nothing.
use Prim.Native.Nat.{ℕ, zero, suc, ◌+◌, ◌≤◌, ◌<◌}
use mathlib.Core.Path.{◌≡◌, sym, ◌∙◌, subst}
use mathlib.Core.List.Memᴰ.{head as here}
use mathlib.Core.List.Memᴰ.{not-nil}
use mathlib.Core.List.Memᴰ.{tail as later}
use mathlib.Core.List.{List, [], ◌∷◌, ◌++◌, Memᴰ as In}
use mathlib.Core.Logic.{◌⊎◌, inl, inr, ⊎_elim}
use lib.IntN.{ℤ, pos}
use native.Mathlib.Nat.{eq-or-lt_of_le}
use native.Mathlib.Omega.{arith}
use native.Mathlib.Decide.{ℕ_discrete}
use Rattle.cells.specs.Cells.{cell}
use Rattle.reasons.specs.Step.{Step}
use Rattle.reasons.specs.Rules.{Tied, itself, before, forth, back}
use Rattle.sketch.specs.Sketch.{left, right, Fits}
use Rattle.forest.specs.Labels.{Labelled, Joining}
use Rattle.forest.proofs.Rows.{relabelled-joined, labelled-less}
use Rattle.forest.proofs.Groups.{fits-less}

-- the ties of a path, whatever the steps say besides
pub record Way (ties : List ℕ) (t i j : ℕ) (path : List ℕ) : Type 0 where
  pub tied : (steps : List Step) → Fits ties t steps → Tied steps t i j (pos 0) path
  pub within : (x : ℕ) → In x path → x < t

-- a path and one behind it
pub in_both : {x : ℕ} (p : List ℕ) {q : List ℕ} → In x (p ++ q) → In x p ⊎ In x q
in_both [] m = inr m
in_both (y ∷ p) (here e) = inl (here e)
in_both (y ∷ p) (later m) = ⊎_elim (λ k. inl (later k)) inr (in_both p m)

pub in-first : {x : ℕ} {p : List ℕ} (q : List ℕ) → In x p → In x (p ++ q)
in-first q (here e) = here e
in-first q (later m) = later (in-first q m)

pub in-second : {x : ℕ} (p : List ℕ) {q : List ℕ} → In x q → In x (p ++ q)
in-second [] m = m
in-second (y ∷ p) m = later (in-second p m)

module _ {steps : List Step} {u i j : ℕ} {c : ℤ} {path : List ℕ} (T : Tied steps u i j c path) where
  tied_on : (t : ℕ) → u ≤ t → Tied steps t i j c path
  tied_on zero h = let e : u ≡ 0 = omega arith in subst (λ (k : ℕ). Tied steps k i j c path) e T
  tied_on (suc t) h = ⊎_elim (λ e. subst (λ (k : ℕ). Tied steps k i j c path) e T) (λ l. before (tied_on t (omega arith))) (eq-or-lt_of_le h)

-- ties below u on both sides of it
between : {u : ℕ} {p q : List ℕ} → ((x : ℕ) → In x p → x < u) → ((x : ℕ) → In x q → x < u) → (x : ℕ) → In x (p ++ u ∷ q) → x < suc u
between {u} {p} {q} f g x m = ⊎_elim (λ k. let l = f x k in omega arith) second (in_both p m)
  where
    second : In x (u ∷ q) → x < suc u
    second (here e) = omega arith
    second (later k) = let l = g x k in omega arith

module _ {ties : List ℕ} where
  pub way_on : {u t i j : ℕ} {path : List ℕ} → u ≤ t → Way ties u i j path → Way ties t i j path
  way_on {t = t} h W = record { tied = λ steps F. tied_on (W.tied steps (fits-less h F)) t h; within = λ x m. let l = W.within x m in omega arith }

  pub way-itself : (t i : ℕ) → Way ties t i i []
  way-itself t i = way_on {u = 0} (omega arith) (record { tied = λ steps F. itself; within = λ x m. absurd (not-nil m) })

  module _ {u i j : ℕ} {p q : List ℕ} where
    -- over tie u, from its left to its right or back
    pub way-forth : Way ties u i (left ties u) p → Way ties u (right ties u) j q → Way ties (suc u) i j (p ++ u ∷ q)
    way-forth A B =
        record {
          tied = λ steps F. let F' : Fits ties u steps = fits-less (omega arith) F in forth (A.tied steps F') (F.at u (omega arith)) (B.tied steps F');
          within = between A.within B.within;
        }

    pub way_back : Way ties u i (right ties u) p → Way ties u (left ties u) j q → Way ties (suc u) i j (p ++ u ∷ q)
    way_back A B =
        record {
          tied = λ steps F. let F' : Fits ties u steps = fits-less (omega arith) F in back (A.tied steps F') (F.at u (omega arith)) (B.tied steps F');
          within = between A.within B.within;
        }

-- the sides on which two points were of the tie that joined them
abbrev pub Sides : (ties labels : List ℕ) (i j u : ℕ) → Type 0
Sides ties labels i j u =
    ((cell labels u i ≡ cell labels u (left ties u)) × (cell labels u (right ties u) ≡ cell labels u j))
    ⊎ ((cell labels u i ≡ cell labels u (right ties u)) × (cell labels u (left ties u) ≡ cell labels u j))

abbrev Reached : (n : ℕ) (ties labels : List ℕ) → ℕ → Type 0
Reached n ties labels t = (i j : ℕ) → i < n → j < n → cell labels t i ≡ cell labels t j → (path : List ℕ) × Way ties t i j path

module _ {n : ℕ} {ties labels : List ℕ} where
  pub sides : {t i j u : ℕ} → Labelled n ties labels t → i < n → j < n → Joining labels t i j u → Sides ties labels i j u
  sides {i = i} {j = j} {u = u} L l m J =
      relabelled-joined (cell labels u) (left ties u) (right ties u) i j J.apart (sym (L.next u J.earlier i l) ∙ J.together ∙ L.next u J.earlier j m)

  one_more : {t : ℕ} → Labelled n ties labels (suc t) → Reached n ties labels t → Reached n ties labels (suc t)
  one_more {t} L R i j l m e = go (ℕ_discrete (cell labels t i) (cell labels t j))
    where
      joined : (cell labels t i ≡ cell labels t j → ⊥) → Joining labels (suc t) i j t
      joined h =
          let f : t + 1 ≡ suc t = omega arith in
          record { earlier = omega arith; apart = h; together = subst (λ (k : ℕ). cell labels k i ≡ cell labels k j) (sym f) e }

      over : Sides ties labels i j t → (path : List ℕ) × Way ties (suc t) i j path
      over (inl (p, q)) =
          let A = R i (left ties t) l (L.left< t (omega arith)) p in
          let B = R (right ties t) j (L.right< t (omega arith)) m q in
          (A.0 ++ t ∷ B.0, way-forth A.1 B.1)
      over (inr (p, q)) =
          let A = R i (right ties t) l (L.right< t (omega arith)) p in
          let B = R (left ties t) j (L.left< t (omega arith)) m q in
          (A.0 ++ t ∷ B.0, way_back A.1 B.1)

      go : Dec (cell labels t i ≡ cell labels t j) → (path : List ℕ) × Way ties (suc t) i j path
      go (yes f) = let A = R i j l m f in (A.0, way_on (omega arith) A.1)
      go (no h) = over (sides L l m (joined h))

  pub together-tied : (t i j : ℕ) → Labelled n ties labels t → i < n → j < n → cell labels t i ≡ cell labels t j → (path : List ℕ) × Way ties t i j path
  together-tied zero i j L l m e = let f : i ≡ j = sym (L.begun i l) ∙ e ∙ L.begun j m in ([], subst (λ (k : ℕ). Way ties 0 i k []) f (way-itself 0 i))
  together-tied (suc t) i j L l m e = one_more L (λ i j. together-tied t i j (labelled-less (omega arith) L)) i j l m e
