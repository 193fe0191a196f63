-- The rows of best totals as they are made: a row copied, and each bound put in front.
-- Assumes nothing.
use Prim.Native.Nat.{ℕ, ◌+◌, ◌*◌, ◌≤◌, ◌<◌}
use mathlib.Core.Path.{◌≡◌, refl, sym, ◌∙◌, ap}
use mathlib.Core.Bool.{Bool, true, true≢false}
use mathlib.Core.List.{List}
use mathlib.Core.Logic.{◌⊎◌, inl, inr, ⊎_elim}
use lib.ListN.{length, get_or, set}
use lib.Seq.{get_or-set_same, get_or-set_other}
use native.Mathlib.Decide.{ℕ_discrete}
use native.Mathlib.Omega.{arith}
use borrow.Author.Count.{below_more}
use Rattle.kind.specs.Code.{sum_of}
use Rattle.cells.specs.Cells.{stride, cell, Kept}
use Rattle.layers.specs.Bounds.{Bounds, from, to, code, Sound}
use Rattle.layers.specs.Layer.{Over, Copied, RowOver}

pub copied_none : (d : List ℕ) (h : ℕ) → Copied 0 d d h
copied_none d h = record { copied = λ i l. absurd (omega arith); before = λ k l. refl }

pub copied_more : (old d : List ℕ) (h i p v : ℕ) → i < stride → p ≡ (h + 1) * stride + i → p < length d → v ≡ get_or d (h * stride + i) 0
    → Copied i old d h → Copied (i + 1) old (set d p v) h
copied_more old d h i p v i< e l f C =
    record {
      copied = below_more (λ k. cell (set d p v) (h + 1) k ≡ cell old h k) i
          (λ k k<. get_or-set_other d p ((h + 1) * stride + k) v 0 (omega arith) ∙ C.copied k k<)
          (ap (λ (q : ℕ). get_or (set d p v) q 0) (sym e) ∙ get_or-set_same d p v 0 l ∙ f ∙ C.before (h * stride + i) (omega arith));
      before = λ k k<. get_or-set_other d p k v 0 (omega arith) ∙ C.before k k<;
    }

wider : {B : Bounds} {low : ℕ → ℕ} {i t : ℕ} (m : ℕ) → Over B m low i t → Over B (m + 1) low i t
wider m o = record { number = o.number; there = omega (arith, o.there); starts = o.starts; sums = o.sums }

module _ (B : Bounds) (n : ℕ) (S : Sound n B) (n≤ : n ≤ stride) (old d : List ℕ) (h e : ℕ) (changed : Bool) (e< : e < B.count)
    (R : RowOver B e n old d h changed) where
  -- row h is as it was
  pub low-is : cell d h (to B e) ≡ cell old h (to B e)
  low-is = R.before (h * stride + to B e) (omega (arith, S.to< e e<))

  module _ (v : ℕ) (v-is : v ≡ sum_of (code B e) (cell d h (to B e))) (p : ℕ) (p-is : p ≡ (h + 1) * stride + from B e) where
    via : v ≡ sum_of (code B e) (cell old h (to B e))
    via = v-is ∙ ap (sum_of (code B e)) low-is

    pub not-better : get_or d p 0 ≤ v → RowOver B (e + 1) n old d h changed
    not-better l =
        record {
          layer =
              record {
                at-most = R.layer.at-most;
                over = below_more (λ k. cell d (h + 1) (from B k) ≤ sum_of (code B k) (cell old h (to B k))) e R.layer.over
                    (omega (arith, via, ap (λ (q : ℕ). get_or d q 0) p-is));
                one = λ i i<. ⊎_elim (λ f. inl f) (λ o. inr (wider e o)) (R.layer.one i i<);
              };
          before = R.before;
          still = R.still;
        }

    module _ (p< : p < length d) (l : v < get_or d p 0) where
      here : cell (set d p v) (h + 1) (from B e) ≡ v
      here = ap (λ (q : ℕ). get_or (set d p v) q 0) (sym p-is) ∙ get_or-set_same d p v 0 p<

      there : (i : ℕ) → i < n → (i ≡ from B e → ⊥) → cell (set d p v) (h + 1) i ≡ cell d (h + 1) i
      there i i< f = get_or-set_other d p ((h + 1) * stride + i) v 0 (λ g. f (omega arith))

      less : (i : ℕ) → i < n → cell (set d p v) (h + 1) i ≤ cell d (h + 1) i
      less i i< = go (ℕ_discrete i (from B e))
        where
          go : Dec (i ≡ from B e) → cell (set d p v) (h + 1) i ≤ cell d (h + 1) i
          go (yes f) = rw f (omega (arith, here, ap (λ (q : ℕ). get_or d q 0) p-is))
          go (no f) = omega (arith, there i i< f)

      one : (i : ℕ) → i < n → (cell (set d p v) (h + 1) i ≡ cell old h i) ⊎ Over B (e + 1) (cell old h) i (cell (set d p v) (h + 1) i)
      one i i< = go (ℕ_discrete i (from B e))
        where
          go : Dec (i ≡ from B e) → (cell (set d p v) (h + 1) i ≡ cell old h i) ⊎ Over B (e + 1) (cell old h) i (cell (set d p v) (h + 1) i)
          go (yes f) = inr (record { number = e; there = omega arith; starts = sym f; sums = sym via ∙ sym here ∙ ap (cell (set d p v) (h + 1)) (sym f) })
          go (no f) = rw (there i i< f) (⊎_elim (λ g. inl g) (λ o. inr (wider e o)) (R.layer.one i i<))

      pub better : RowOver B (e + 1) n old (set d p v) h true
      better =
          record {
            layer =
                record {
                  at-most = λ i i<. omega (arith, less i i<, R.layer.at-most i i<);
                  over = below_more (λ k. cell (set d p v) (h + 1) (from B k) ≤ sum_of (code B k) (cell old h (to B k))) e
                      (λ k k<. omega (arith, less (from B k) (S.from< k (omega arith)), R.layer.over k k<))
                      (omega (arith, here, via));
                  one = one;
                };
            before = λ k k<. get_or-set_other d p k v 0 (omega arith) ∙ R.before k k<;
            still = λ f. absurd (true≢false f);
          }

-- a cell between the n points is set, and no other
pub kept_set : (n i j p v : ℕ) {old new : List ℕ} → n ≤ stride → i < n → j < n → p ≡ i * stride + j → Kept n old new → Kept n old (set new p v)
kept_set n i j p v {new = new} h i< j< e K = record {
  right = λ x y l m. get_or-set_other new p (x * stride + y) v 0 (λ f. omega arith) ∙ K.right x y l m;
  below = λ k l. get_or-set_other new p k v 0 (λ f. omega arith) ∙ K.below k l;
}
