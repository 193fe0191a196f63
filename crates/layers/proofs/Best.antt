-- The rows of best totals: they stay in range, no walk of few bounds is tighter, and making one more row keeps the others.
-- Assumes nothing.
use Prim.Native.Nat.{ℕ, zero, suc, ◌+◌, ◌-◌, ◌*◌, ◌≤◌, ◌<◌}
use mathlib.Core.Path.{◌≡◌, refl, sym, ◌∙◌, ap, subst}
use mathlib.Core.Bool.{Bool, false}
use mathlib.Core.List.{List}
use mathlib.Core.Logic.{inl, inr, ⊎_elim}
use lib.ListN.{length, get_or}
use lib.IntN.{ℤ, pos}
use native.Mathlib.Decide.{ℕ_discrete, dec_lt}
use native.Mathlib.Numerals.{add-one}
use native.Mathlib.Omega.{arith}
use borrow.Author.Count.{below_more}
use Rattle.kind.specs.Code.{none, base, sum_of, Within, Addable}
use Rattle.kind.specs.Kind.{Kind, added, kind_of}
use Rattle.kind.proofs.Codes.{there, addable, sum-within}
use Rattle.kind.proofs.Kind.{kind-sum, kind-none, kind-three}
use Rattle.closure.specs.Walk.{Tight, Walk}
use Rattle.closure.specs.Walk.Walk.{stop, step}
use Rattle.closure.specs.Table as size
use Rattle.closure.proofs.Kept as kept
use Rattle.closure.proofs.Order.{Is, none-tight, both, of_code, tight-refl, tight-trans, tight-same, tight-code, added-mono}
use Rattle.closure.proofs.Order.Is.{plain}
use Rattle.cells.specs.Cells.{stride, cell}
use Rattle.layers.specs.Bounds.{Bounds, from, to, code, Sound, Listed, Least}
use Rattle.layers.specs.Layer.{Over, Layered, Copied, RowOver, Rows, Layers, Read}

-- the total of a walk is a gap
record Gap (k : Kind) : Type 0 where
  mark : ℕ
  number : ℤ
  is : Is k mark number

some : {E : ℕ → ℕ → Kind → Type 0} {i k : ℕ} {t : Kind} {ps : List ℕ} → Walk E i k t ps → 1 ≤ length ps
some stop = omega arith
some (step e w) = omega arith

module _ (n : ℕ) (B : Bounds) (S : Sound n B) where
  total-is : {i k : ℕ} {t : Kind} {ps : List ℕ} → Walk (Listed B) i k t ps → Gap t
  total-is stop = record { mark = 0; number = pos 0; is = plain }
  total-is (step e w) =
      let g = rw e.gap at (of_code (code B e.number) (S.there e.number e.there)) in
      let r = total-is w in
      record { mark = _; number = _; is = both g r.is }

  -- a bound in front of a row
  over-tight : (low up : ℕ → ℕ) {i j : ℕ} {g : Kind} (t : Kind) (e : Listed B i j g) →
      up (from B e.number) ≤ sum_of (code B e.number) (low (to B e.number)) → Addable (code B e.number) (low (to B e.number))
      → Tight (kind_of (low j)) t → Tight (kind_of (up i)) (added g t)
  over-tight low up {g = g} t e l a h =
      let u : Tight (kind_of (up (from B e.number))) (added (kind_of (code B e.number)) (kind_of (low (to B e.number)))) =
      tight-same _ (tight-code _ _ l) (kind-sum _ _ a) in
      tight-trans _ _ _ (rw (e.starts, e.ends, e.gap) at u) (added-mono _ _ _ _ (tight-refl g) h)

  layered-same : (m : ℕ) (low up low' up' : ℕ → ℕ) → m ≤ B.count → ((i : ℕ) → i < n → low' i ≡ low i) → ((i : ℕ) → i < n → up' i ≡ up i)
      → Layered B m n low up → Layered B m n low' up'
  layered-same m low up low' up' m≤ p q L =
      record {
        at-most = λ i i<. omega (arith, L.at-most i i<, p i i<, q i i<);
        over = λ e e<. rw (q (from B e) (S.from< e (omega arith)), p (to B e) (S.to< e (omega arith))) (L.over e e<);
        one = λ i i<. rw (q i i<, p i i<) (⊎_elim (λ f. inl f) (λ o. inr (again i o)) (L.one i i<));
      }
    where
      again : (i : ℕ) → Over B m low i (up i) → Over B m low' i (up i)
      again i o =
          record {
            number = o.number;
            there = o.there;
            starts = o.starts;
            sums = ap (sum_of (code B o.number)) (p (to B o.number) (S.to< o.number (omega (arith, o.there)))) ∙ o.sums;
          }

  module _ (b : ℕ) (b< : b < n) (n≤ : n ≤ stride) where
    -- rows that are as they were
    rows-kept : (old new : List ℕ) (h : ℕ) → ((k : ℕ) → k < (h + 1) * stride → get_or new k 0 ≡ get_or old k 0) → Rows B n b old h → Rows B n b new h
    rows-kept old new h f R =
        record {
          begun =
              record {
                same = f (0 * stride + b) (omega arith) ∙ R.begun.same;
                apart = λ i i< p. f (0 * stride + i) (omega arith) ∙ R.begun.apart i i< p;
              };
          next = λ g g<.
              layered-same B.count (cell old g) (cell old (g + 1)) (cell new g) (cell new (g + 1)) (omega arith)
              (λ i i<. f (g * stride + i) (omega arith)) (λ i i<. f ((g + 1) * stride + i) (omega arith)) (R.next g g<);
        }

    module _ (best : List ℕ) (H : ℕ) (H≤ : H ≤ n) (R : Rows B n b best H) where
      begun-within : (i : ℕ) → i < n → Within 0 (cell best 0 i)
      begun-within i i< = go (ℕ_discrete i b)
        where
          go : Dec (i ≡ b) → Within 0 (cell best 0 i)
          go (yes e) = rw (e, R.begun.same) (record { low = omega arith; high = λ l. omega arith; top = omega arith })
          go (no e) = rw (R.begun.apart i i< e) (record { low = omega arith; high = λ l. omega arith; top = omega arith })

      next-within : (h : ℕ) → h < H → ((i : ℕ) → i < n → Within (h * size.step) (cell best h i)) → (i : ℕ) → i < n
          → Within ((h + 1) * size.step) (cell best (h + 1) i)
      next-within h l f i i< =
          ⊎_elim (λ e. rw e (kept.wider (h * size.step) ((h + 1) * size.step) _ (omega arith) (f i i<)))
          (λ o.
          let e< : o.number < B.count = o.there in
          rw (sym o.sums)
          (kept.wider (size.step + h * size.step) ((h + 1) * size.step) _ (omega arith)
          (sum-within size.step (h * size.step) _ _ (omega arith) (S.near o.number e<) (f (to B o.number) (S.to< o.number e<)))))
          ((R.next h l).one i i<)

      within : (h : ℕ) → h ≤ H → (i : ℕ) → i < n → Within (h * size.step) (cell best h i)
      within zero l i i< = begun-within i i<
      within (suc h) l i i< =
          subst (λ (q : ℕ). Within (q * size.step) (cell best q i)) (add-one h) (next-within h (omega arith) (within h (omega arith)) i i<)

      pub addable-at : (h : ℕ) → h ≤ H → (e : ℕ) → e < B.count → Addable (code B e) (cell best h (to B e))
      addable-at h l e e< = addable size.step (h * size.step) _ _ (omega arith) (S.near e e<) (within h l (to B e) (S.to< e e<))

      falls : (h : ℕ) → h ≤ H → cell best h b ≤ base
      falls zero l = omega (arith, R.begun.same)
      falls (suc h) l =
          subst (λ (q : ℕ). cell best q b ≤ base) (add-one h) (omega (arith, (R.next h (omega arith)).at-most b b<, falls h (omega arith)))

      here : (h : ℕ) → h ≤ H → (i : ℕ) → i ≡ b → Tight (kind_of (cell best h i)) (kind_of base)
      here h l i e = rw e (tight-code _ _ (falls h l))

      -- no walk to b with at most h bounds is tighter than row h
      few-least : (h : ℕ) → h ≤ H → {i k : ℕ} {t : Kind} {ps : List ℕ} → Walk (Listed B) i k t ps → k ≡ b → length ps ≤ h + 1
          → Tight (kind_of (cell best h i)) t
      few-least h l (stop {i}) e m = rw kind-three.1 at (here h l i e)
      few-least zero l (step x w) e m = absurd (omega (arith, some w))
      few-least (suc h) l (step {i} {j} {g = g} {t = t} x w) e m =
          let r : Tight (kind_of (cell best h j)) t = few-least h (omega arith) w e (omega arith) in
          let x< : x.number < B.count = x.there in
          subst (λ (q : ℕ). Tight (kind_of (cell best q i)) (added g t)) (add-one h)
          (over-tight (cell best h) (cell best (h + 1)) t x ((R.next h (omega arith)).over x.number x<)
          (addable-at h (omega arith) x.number x<) r)

      -- nor any where more bounds do no better
      all-least : ((e : ℕ) → e < B.count → cell best H (from B e) ≤ sum_of (code B e) (cell best H (to B e)))
          → {i k : ℕ} {t : Kind} {ps : List ℕ} → Walk (Listed B) i k t ps → k ≡ b → Tight (kind_of (cell best H i)) t
      all-least f (stop {i}) e = rw kind-three.1 at (here H (omega arith) i e)
      all-least f (step {t = t} x w) e =
          let x< : x.number < B.count = x.there in
          over-tight (cell best H) (cell best H) t x (f x.number x<) (addable-at H (omega arith) x.number x<) (all-least f w e)

    least : (best : List ℕ) (h : ℕ) → Layers B n b best h → {a : ℕ} {t : Kind} {ps : List ℕ} → Walk (Listed B) a b t ps → length ps ≤ n - 1 + 1
        → Tight (kind_of (cell best h a)) t
    least best h L {a} {t} w m = go (dec_lt (h + 1) n)
      where
        go : Dec (h + 1 < n) → Tight (kind_of (cell best h a)) t
        go (yes l) = all-least best h (omega (arith, L.few)) L.rows (L.last l) w refl
        go (no l) = few-least best h (omega (arith, L.few)) L.rows h (omega arith) w refl (omega (arith, L.few))

    -- where there is one, row h has a gap
    pub found : (best : List ℕ) (h : ℕ) → Layers B n b best h → {a : ℕ} {t : Kind} {ps : List ℕ} → Walk (Listed B) a b t ps → length ps ≤ n - 1 + 1
        → cell best h a < none
    found best h L {a} {t} w m =
        there (cell best h a) (λ p. p) (λ p. absurd (none-tight (total-is w).is (rw (kind-none _ p) at (least best h L w m))))

    -- what is read off is the least
    pub written : (best : List ℕ) (h a : ℕ) (old out : List ℕ) (k : ℕ) → Layers B n b best h → Read B a b best h old out k → Least n B a b old out k
    written best h a old out k L R =
        record {
          few = omega (arith, R.few, L.few);
          total = kind_of (cell best h a);
          goes = R.goes;
          least = λ w. least best h L w.walk w.few;
          kept = R.kept;
        }

    -- one row more
    module _ (d mid : List ℕ) (h : ℕ) (h< : h + 1 < n) (R : Rows B n b d h) (C : Copied n d mid h) where
      pub asked-addable : (e : ℕ) → e < B.count → Addable (code B e) (cell mid h (to B e))
      asked-addable e e< =
          rw (C.before (h * stride + to B e) (omega (arith, S.to< e e<))) (addable-at d h (omega arith) R h (omega arith) e e<)

      module _ (new : List ℕ) (changed : Bool) (O : RowOver B B.count n mid new h changed) where
        same : (k : ℕ) → k < (h + 1) * stride → get_or new k 0 ≡ get_or d k 0
        same k l = O.before k l ∙ C.before k l

        mid-is : (i : ℕ) → i < n → cell new h i ≡ cell mid h i
        mid-is i i< = O.before (h * stride + i) (omega arith)

        top : Layered B B.count n (cell new h) (cell new (h + 1))
        top =
            layered-same B.count (cell mid h) (cell new (h + 1)) (cell new h) (cell new (h + 1)) (omega arith) mid-is (λ i i<. refl) O.layer

        pub more : Rows B n b new (h + 1)
        more =
            let K : Rows B n b new h = rows-kept d new h same R in
            record {
              begun = K.begun;
              next = below_more (λ g. Layered B B.count n (cell new g) (cell new (g + 1))) h K.next top;
            }

        pub stopped : changed ≡ false → Layers B n b new h
        stopped f =
            record {
              few = omega arith;
              rows = rows-kept d new h same R;
              last = λ l e e<.
                  omega (
                    arith,
                    top.over e e<,
                    O.still f (from B e) (S.from< e e<),
                    mid-is (from B e) (S.from< e e<),
                  );
            }
