-- The rows of a table as they are relaxed one after the other, and what is left when all are.
-- Assumes nothing.
use Prim.Native.Nat.{ℕ, ◌+◌, ◌*◌, ◌≤◌, ◌<◌}
use mathlib.Core.Path.{◌≡◌, refl, sym, ◌∙◌, ap}
use mathlib.Core.Bool.{true, false, true≢false}
use mathlib.Core.List.{List}
use lib.ListN.{length, get_or}
use native.Mathlib.Decide.{dec_lt}
use native.Mathlib.Omega.{arith}
use borrow.Author.Count.{below_more}
use Rattle.kind.specs.Code.{none, base, sum_of, tighter_of, Addable, Within}
use Rattle.kind.proofs.Codes.{addable, sum-none-right, sum-within, sum_mono}
use Rattle.closure.specs.Closed.{RelaxedBy}
use Rattle.closure.specs.Table.{Table, step, reach}
use Rattle.closure.proofs.Kept.{wider, row_kept, held_kept}
use Rattle.closure.proofs.Table as closure
use Rattle.cells.specs.Cells.{stride, cells, cell, RowRelaxed}
use Rattle.cells.proofs.Keeps.{kept-all}
use Rattle.table.specs.Inserted.{Rows, Put, Inserted}

pub none_yet : (n : ℕ) (d : List ℕ) (a b g : ℕ) → Rows n d d a b g 0
none_yet n d a b g = record { at = λ i h j k. absurd (omega arith); right = λ i j h k. refl; below = λ k h. refl }

-- what `insert` and `relax_rows` ask for
pub record Asked (n : ℕ) (old : List ℕ) (a b g : ℕ) : Type 0 where
  pub size : (length old ≡ cells) × (n ≤ stride) × (a < n) × (b < n)
  pub bound : (g < none) × Within step g
  pub table : Table n (cell old)

pub asked : {n : ℕ} {d : List ℕ} {a b g : ℕ} →
    record { d_len : (length d ≡ cells) × (n ≤ stride) × (a < n) × (b < n); g_lt_none : (g < none) × Within step g; table : Table n (cell d) } → Asked n d a b g
asked p = record { size = p.d_len; bound = p.g_lt_none; table = p.table }

module _ (n : ℕ) (old : List ℕ) (a b g : ℕ) (A : Asked n old a b g) where
  T : Table n (cell old)
  T = A.table

  a< : a < n
  a< = A.size.2

  b< : b < n
  b< = A.size.3

  near : Within step g
  near = A.bound.1

  -- the sum that tells whether a walk is closed has a code
  pub closing : Addable g (cell old b a)
  closing = addable step (reach n) _ _ (omega (arith, T.closed.small)) near (T.closed.range b a b< a<)

  module _ (d : List ℕ) (i : ℕ) (i< : i < n) (R : Rows n old d a b g i) where
    row_is : (j : ℕ) → cell d i j ≡ cell old i j
    row_is j = R.below (i * stride + j) (omega arith)

    -- and so have those that relax a row
    pub first : Addable (cell d i a) g
    first = rw (row_is a) (addable (reach n) step _ _ (omega (arith, T.closed.small)) (T.closed.range i a i< a<) near)

    module _ (row : List ℕ) (via : ℕ) (v : via ≡ sum_of (cell d i a) g) (r : (j : ℕ) → j < stride → get_or row j 0 ≡ cell old b j) where
      via-is : via ≡ sum_of (cell old i a) g
      via-is = v ∙ ap (λ (x : ℕ). sum_of x g) (row_is a)

      pub second : (j : ℕ) → j < n → Addable via (get_or row j 0)
      second j j< =
          rw (via-is, r j (omega (arith, A.size.1)))
          (addable (reach n + step) (reach n) _ _ (omega (arith, T.closed.small))
          (sum-within (reach n) step _ _ (omega (arith, T.closed.small)) (T.closed.range i a i< a<) near)
          (T.closed.range b j b< j<))

      pub skipped : cell d i b ≤ via → (j : ℕ) → j < n → cell d i j ≤ sum_of via (get_or row j 0)
      skipped h j j< =
          rw (via-is, r j (omega (arith, A.size.1)), row_is j)
          (row_kept n (reach n) (cell old) a b g i j a< b< i< j< near (omega arith) T.closed (omega (arith, via-is, row_is b)))

      module _ (from to : ℕ) (to≤ : to ≤ n) (low : (j : ℕ) → j < from → none ≤ get_or row j 0) (high : (j : ℕ) → to ≤ j → j < n → none ≤ get_or row j 0)
          (new : List ℕ) (S : RowRelaxed d new row i via from to) where
        abbrev Relaxed : ℕ → Type 0
        Relaxed j = cell new i j ≡ tighter_of (cell old i j) (sum_of (sum_of (cell old i a) g) (cell old b j))

        -- where row b has no gap, nothing is to be done
        outside : (j : ℕ) → j < n → none ≤ get_or row j 0 → cell new i j ≡ cell d i j → Relaxed j
        outside j j< h e =
            omega (
              arith,
              row_is j,
              (T.closed.range i j i< j<).top,
              sum-none-right (sum_of (cell old i a) g) (cell old b j) (omega (arith, r j (omega (arith, A.size.1)))),
            )

        relaxed : (j : ℕ) → j < n → Relaxed j
        relaxed j j< = go (dec_lt j from) (dec_lt j to)
          where
            go : Dec (j < from) → Dec (j < to) → Relaxed j
            go (yes p) q = outside j j< (low j p) (S.before (i * stride + j) (omega arith))
            go (no p) (yes q) = cc (S.at j (omega arith) q, row_is j, via-is, r j (omega (arith, A.size.1)))
            go (no p) (no q) = outside j j< (high j (omega arith) j<) (S.after (i * stride + j) (omega arith))

        pub more : Rows n old new a b g (i + 1)
        more =
            let n≤ : n ≤ stride = A.size.1 in
            record {
              at = below_more (λ k. (j : ℕ) → j < n → cell new k j ≡ tighter_of (cell old k j) (sum_of (sum_of (cell old k a) g) (cell old b j))) i
                  (λ k l j j<. S.before (k * stride + j) (omega arith) ∙ R.at k l j j<)
                  relaxed;
              right = λ k j n≤j j<. go k j n≤j j< (dec_lt k i) ∙ R.right k j n≤j j<;
              below = λ k h. S.after k (omega arith) ∙ R.below k (omega arith);
            }
          where
            go : (k j : ℕ) → n ≤ j → j < stride → Dec (k < i) → cell new k j ≡ cell d k j
            go k j p q (yes h) = S.before (k * stride + j) (omega arith)
            go k j p q (no h) = S.after (k * stride + j) (omega arith)

  -- where the table holds the bound already
  implied : cell old a b ≤ g → Put n old old a b g
  implied h =
      let wide : Within (reach n) g = wider step (reach n) g (omega arith) near in
      record {
        not-under =
            omega (
              arith,
              T.closed.same a a<,
              T.closed.tri a a b a< a< b<,
              sum_mono (reach n) (reach n) _ g (cell old b a) (omega (arith, T.closed.small)) (T.closed.range a b a< b<) wide (T.closed.range b a b< a<) h,
            );
        relaxed =
            record {
              at = λ i j i< j<.
                  omega (
                    arith,
                    row_kept n (reach n) (cell old) a b g i j a< b< i< j< near (omega arith) T.closed
                        (held_kept n (reach n) (cell old) a b g i a< b< i< near (omega arith) T.closed h),
                  );
            };
        table = T;
        kept = kept-all n old;
      }

  -- where all rows are relaxed
  put : (new : List ℕ) → base ≤ sum_of g (cell old b a) → Rows n old new a b g n → Put n old new a b g
  put new o R =
      let r : RelaxedBy n (cell old) (cell new) a b g = record { at = λ i j i< j<. R.at i i< j j< } in
      record {
        not-under = o;
        relaxed = r;
        table = closure.relaxed n (cell old) (cell new) a b g a< b< A.bound.0 near o r T;
        kept = record { right = R.right; below = R.below };
      }

  -- the three answers
  pub inserted-held : cell old a b ≤ g → Inserted n old old a b g true
  inserted-held h = record { put = λ e. implied h; shut = λ e. absurd (true≢false e) }

  pub inserted-not : sum_of g (cell old b a) < base → Inserted n old old a b g false
  inserted-not u = record { put = λ e. absurd (true≢false (sym e)); shut = λ e. record { under = u; same = refl } }

  pub inserted : (new : List ℕ) → base ≤ sum_of g (cell old b a) → Rows n old new a b g n → Inserted n old new a b g true
  inserted new o R = record { put = λ e. put new o R; shut = λ e. absurd (true≢false e) }
