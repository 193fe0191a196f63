-- A row of labels with one group joined to another, by cases; and rows that stand with fewer ties, begin, and go on with one tie more.
-- Assumes nothing.
use Prim.Native.Nat.{ℕ, suc, ◌+◌, ◌*◌, ◌≤◌, ◌<◌}
use mathlib.Core.Path.{◌≡◌, refl, sym, ap, ◌∙◌, subst}
use mathlib.Core.Bool.{Bool, true, false, cond}
use mathlib.Core.List.{List}
use mathlib.Core.Logic.{◌⊎◌, inl, inr}
use lib.Dec.{eqb}
use lib.ListN.{length, get_or, set}
use lib.Seq.{get_or-set_same, get_or-set_other}
use native.Mathlib.Omega.{arith}
use native.Mathlib.Decide.{ℕ_discrete}
use borrow.Author.Count.{below_more}
use borrow.Author.Tests.{eqb-true, eqb-false, eq-eqb, ne_eqb}
use Rattle.cells.specs.Cells.{stride, cell}
use Rattle.sketch.specs.Sketch.{left_of, right_of, left, right}
use Rattle.forest.specs.Labels.{relabelled, Labelled, Begun, Joined}

module _ (row : ℕ → ℕ) (a b : ℕ) where
  pub relabelled-in : (i : ℕ) → row i ≡ row b → relabelled row a b i ≡ row a
  relabelled-in i e = ap (λ (t : Bool). cond t (row a) (row i)) (eq-eqb (row i) (row b) e)

  pub relabelled-out : (i : ℕ) → (row i ≡ row b → ⊥) → relabelled row a b i ≡ row i
  relabelled-out i h = ap (λ (t : Bool). cond t (row a) (row i)) (ne_eqb (row i) (row b) h)

  -- each label is one of the row before, and that of b's group is none
  pub relabelled-keeps : (P : ℕ → Type 0) (i : ℕ) → P (row a) → P (row i) → P (relabelled row a b i)
  relabelled-keeps P i p q = go (ℕ_discrete (row i) (row b))
    where
      go : Dec (row i ≡ row b) → P (relabelled row a b i)
      go (yes e) = subst P (sym (relabelled-in i e)) p
      go (no n) = subst P (sym (relabelled-out i n)) q

  pub relabelled-drops : (i : ℕ) → (row a ≡ row b → ⊥) → relabelled row a b i ≡ row b → ⊥
  relabelled-drops i h e = go (ℕ_discrete (row i) (row b))
    where
      go : Dec (row i ≡ row b) → ⊥
      go (yes f) = h (sym (relabelled-in i f) ∙ e)
      go (no n) = n (sym (relabelled-out i n) ∙ e)

  -- who is of one label stays so
  pub relabelled-same : {i j : ℕ} → row i ≡ row j → relabelled row a b i ≡ relabelled row a b j
  relabelled-same e = ap (λ (x : ℕ). cond (eqb x (row b)) (row a) x) e

  -- and the groups of a and b become one
  pub relabelled-joins : {i j : ℕ} → row i ≡ row a → row b ≡ row j → relabelled row a b i ≡ relabelled row a b j
  relabelled-joins {i} {j} e f = relabelled-keeps (λ x. x ≡ row a) i refl e ∙ sym (relabelled-in j (sym f))

  -- no others: whose groups become one were on its two sides
  pub relabelled-joined : (i j : ℕ) → (row i ≡ row j → ⊥) → relabelled row a b i ≡ relabelled row a b j →
      ((row i ≡ row a) × (row b ≡ row j)) ⊎ ((row i ≡ row b) × (row a ≡ row j))
  relabelled-joined i j h e = go (ℕ_discrete (row i) (row b)) (ℕ_discrete (row j) (row b))
    where
      go : Dec (row i ≡ row b) → Dec (row j ≡ row b) → ((row i ≡ row a) × (row b ≡ row j)) ⊎ ((row i ≡ row b) × (row a ≡ row j))
      go (yes p) (yes q) = absurd (h (p ∙ sym q))
      go (yes p) (no q) = inr (p, sym (relabelled-in i p) ∙ e ∙ relabelled-out j q)
      go (no p) (yes q) = inl (sym (relabelled-out i p) ∙ e ∙ relabelled-in j q, sym q)
      go (no p) (no q) = absurd (h (sym (relabelled-out i p) ∙ e ∙ relabelled-out j q))

-- a row counts only where it is asked
relabelled-by : (f g : ℕ → ℕ) (a b i : ℕ) → f a ≡ g a → f b ≡ g b → f i ≡ g i → relabelled f a b i ≡ relabelled g a b i
relabelled-by f g a b i p q r =
    ap (λ (x : ℕ). cond (eqb x (f b)) (f a) x) r ∙ ap (λ (y : ℕ). cond (eqb (g i) y) (f a) (g i)) q ∙ ap (λ (z : ℕ). cond (eqb (g i) (g b)) z (g i)) p

-- what the answer of `together` says
pub one_label : {r : Bool} {x y : ℕ} → r ≡ eqb x y → r ≡ true → x ≡ y
one_label {r} {x} {y} e h = eqb-true x y (sym e ∙ h)

pub two-labels : {r : Bool} {x y : ℕ} → r ≡ eqb x y → r ≡ false → x ≡ y → ⊥
two-labels {r} {x} {y} e h = eqb-false x y (sym e ∙ h)

pub labelled-less : {n t u : ℕ} {ties labels : List ℕ} → u ≤ t → Labelled n ties labels t → Labelled n ties labels u
labelled-less h L =
    record {
      begun = L.begun;
      left< = λ v l. L.left< v (omega arith);
      right< = λ v l. L.right< v (omega arith);
      apart = λ v l. L.apart v (omega arith);
      next = λ v l. L.next v (omega arith);
    }

pub labelled-begun : {n : ℕ} {ties old new : List ℕ} → Begun n old new → Labelled n ties new 0
labelled-begun B =
    record {
      begun = B.begun;
      left< = λ u l. absurd (omega arith);
      right< = λ u l. absurd (omega arith);
      apart = λ u l. absurd (omega arith);
      next = λ u l. absurd (omega arith);
    }

-- row t + 1, by `suc`
pub labelled-next : {n t : ℕ} {ties labels : List ℕ} → Labelled n ties labels (suc t) → (i : ℕ) → i < n → cell labels (suc t) i ≡ relabelled (cell labels t) (left ties t) (right ties t) i
labelled-next {n} {t} {ties} {labels} L i l = let e : suc t ≡ t + 1 = omega arith in ap (λ (k : ℕ). cell labels k i) e ∙ L.next t (omega arith) i l

-- ties and labels as far as the rows speak of them
module _ {n t : ℕ} {ties ties' labels labels' : List ℕ} (L : Labelled n ties labels t)
    (f : (u : ℕ) → u < t → get_or ties' u 0 ≡ get_or ties u 0) (g : (u i : ℕ) → u ≤ t → i < n → cell labels' u i ≡ cell labels u i) where
  pub labelled-as : Labelled n ties' labels' t
  labelled-as =
      record {
        begun = λ i l. g 0 i (omega arith) l ∙ L.begun i l;
        left< = λ u l. rw (f u l) (L.left< u l);
        right< = λ u l. rw (f u l) (L.right< u l);
        apart = λ u l e. L.apart u l
            (sym (g u (left ties u) (omega arith) (L.left< u l)) ∙ subst (λ (x : ℕ). cell labels' u (left_of x) ≡ cell labels' u (right_of x)) (f u l) e
            ∙ g u (right ties u) (omega arith) (L.right< u l));
        next = λ u l i m. g (u + 1) i (omega arith) m ∙ L.next u l i m
            ∙ sym (ap (λ (x : ℕ). relabelled (cell labels' u) (left_of x) (right_of x) i) (f u l)
            ∙ relabelled-by (cell labels' u) (cell labels u) (left ties u) (right ties u) i (g u _ (omega arith) (L.left< u l))
            (g u _ (omega arith) (L.right< u l)) (g u i (omega arith) m));
      }

-- the next row, of a tie that is set behind the others
module _ {n t a b : ℕ} {ties ties' labels labels' : List ℕ} (x : ℕ) (L : Labelled n ties labels t) (h : n ≤ stride) (r : t < length ties) (e : ties' ≡ set ties t x)
    (p : left_of x ≡ a) (q : right_of x ≡ b) (p< : a < n) (q< : b < n) (d : cell labels t a ≡ cell labels t b → ⊥) (J : Joined n t a b labels labels') where
  kept : (u i : ℕ) → u ≤ t → i < n → cell labels' u i ≡ cell labels u i
  kept u i l m = J.before (u * stride + i) (omega arith)

  others : (u : ℕ) → u < t → get_or ties' u 0 ≡ get_or ties u 0
  others u l = ap (λ (k : List ℕ). get_or k u 0) e ∙ get_or-set_other ties t u x 0 (omega arith)

  own : get_or ties' t 0 ≡ x
  own = ap (λ (k : List ℕ). get_or k t 0) e ∙ get_or-set_same ties t x 0 r

  left_is : left ties' t ≡ a
  left_is = ap left_of own ∙ p

  right_is : right ties' t ≡ b
  right_is = ap right_of own ∙ q

  pub labelled-more : Labelled n ties' labels' (t + 1)
  labelled-more =
      let B : Labelled n ties' labels' t = labelled-as L others kept in
      record {
        begun = B.begun;
        left< = below_more _ t B.left< (rw left_is p<);
        right< = below_more _ t B.right< (rw right_is q<);
        apart = below_more _ t B.apart
            (rw (left_is, right_is) λ f. d (sym (kept t a (omega arith) p<) ∙ f ∙ kept t b (omega arith) q<));
        next = below_more _ t B.next
            (rw (left_is, right_is) λ i m. J.row i m
            ∙ sym (relabelled-by (cell labels' t) (cell labels t) a b i (kept t a (omega arith) p<) (kept t b (omega arith) q<) (kept t i (omega arith) m)));
      }
