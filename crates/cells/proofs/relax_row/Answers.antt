-- `cells::relax_row` meets its contract: the cells before the counter are relaxed and no other is touched, or nothing would change.
-- Assumes nothing.
use Prim.Native.Nat.{ℕ, ◌+◌, ◌*◌, ◌≤◌, ◌<◌}
use mathlib.Core.Path.{◌≡◌, refl, ◌∙◌}
use mathlib.Core.List.{List}
use lib.Seq.{get_or-set_same, get_or-set_other}
use lib.ListN.{length, get_or, set}
use Rattle.std.proofs.Common.{arith, rules}
use borrow.Author.Count.{below_more}
use Rattle.kind.specs.Code.{sum_of, tighter_of}
use Rattle.cells.specs.Cells.{stride, cell, RowRelaxed}
use Rattle.cells.proofs.relax_row.Goals as goal

none_yet : (d row : List ℕ) (i via from : ℕ) → RowRelaxed d d row i via from from
none_yet d row i via from = record { at = λ j h k. absurd (omega arith); before = λ k h. refl; after = λ k h. refl }

one_more : (old d row : List ℕ) (i via from j s v : ℕ) → RowRelaxed old d row i via from j → from ≤ j → i * stride + j < length d
    → s ≡ sum_of via (get_or row j 0) → v ≡ tighter_of (cell d i j) s → RowRelaxed old (set d (i * stride + j) v) row i via from (j + 1)
one_more old d row i via from j s v R h l f e =
    record {
      at = λ k p q.
          below_more (λ k. from ≤ k → cell (set d (i * stride + j) v) i k ≡ tighter_of (cell old i k) (sum_of via (get_or row k 0))) j
          (λ k l p. get_or-set_other d (i * stride + j) (i * stride + k) v 0 (omega arith) ∙ R.at k p l)
          (λ p. get_or-set_same d (i * stride + j) v 0 l ∙ omega (arith, R.after (i * stride + j) (omega arith)))
          k q p;
      before = λ k p. get_or-set_other d (i * stride + j) k v 0 (omega arith) ∙ R.before k p;
      after = λ k p. get_or-set_other d (i * stride + j) k v 0 (omega arith) ∙ R.after k (omega arith);
    }

skipped : (d row : List ℕ) (i via from to : ℕ) → ((j : ℕ) → from ≤ j → j < to → cell d i j ≤ sum_of via (get_or row j 0)) → RowRelaxed d d row i via from to
skipped d row i via from to h = record { at = λ j k l. omega (arith, h j k l); before = λ k l. refl; after = λ k l. refl }

pub loop-j-init : goal.loop-j-init
loop-j-init c = none_yet _ _ _ _ _

pub sum-requires : goal.sum-requires
sum-requires c = c.requires.by_index _ (omega arith) (omega arith)

pub loop-j-preserved : goal.loop-j-preserved
loop-j-preserved c =
    one_more _ _ _ _ _ _ _ _ _ c.loop-j.invariant (omega arith) (omega arith) c.sum.ensures.code c.tighter.ensures.code

pub returns-after-loop-j : goal.returns-after-loop-j
returns-after-loop-j c =
    let end : c.loop-j.j ≡ c.args.to = omega arith in
    rw end at c.loop-j.invariant

pub returns-else-lt : goal.returns-else-lt
returns-else-lt c =
    let there : cell c.args.d.now c.args.i c.args.b ≤ c.args.via.0 = search rules in
    skipped _ _ c.args.i c.args.via.0 _ _ (c.requires.j_bound there)
