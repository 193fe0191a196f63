-- `table::start` meets its contract: the rows before the counter are started.
-- Assumes nothing.
use Prim.Native.Nat.{ℕ, ◌+◌, ◌*◌, ◌≤◌, ◌<◌}
use mathlib.Core.Path.{◌≡◌, refl, ◌∙◌}
use mathlib.Core.List.{List}
use native.Mathlib.Omega.{arith}
use native.Mathlib.Decide.{dec_lt}
use borrow.Author.Count.{below_more}
use Rattle.closure.proofs.Table.{fresh}
use Rattle.kind.specs.Code.{base, none}
use Rattle.cells.specs.Cells.{stride, cell, RowStarted}
use Rattle.table.specs.Inserted.{Started}
use Rattle.table.proofs.start.Invariants.{Rows}
use Rattle.table.proofs.start.Goals as goal

more : (old d new : List ℕ) (n i : ℕ) → i < n → n ≤ stride → Rows old d n i → RowStarted d new i n → Rows old new n (i + 1)
more old d new n i h n≤ R S =
    record {
      same = below_more (λ k. cell new k k ≡ base) i (λ k l. S.before (k * stride + k) (omega arith) ∙ R.same k l) S.same;
      apart = below_more (λ k. (j : ℕ) → j < n → (k ≡ j → ⊥) → cell new k j ≡ none) i
          (λ k l j p ne. S.before (k * stride + j) (omega arith) ∙ R.apart k l j p ne)
          S.apart;
      right = λ k j p q. go k j p q (dec_lt k i) ∙ R.right k j p q;
      below = λ k p. S.after k (omega arith) ∙ R.below k (omega arith);
    }
  where
    go : (k j : ℕ) → n ≤ j → j < stride → Dec (k < i) → cell new k j ≡ cell d k j
    go k j p q (yes l) = S.before (k * stride + j) (omega arith)
    go k j p q (no l) = S.after (k * stride + j) (omega arith)

all : (old d : List ℕ) (n : ℕ) → n ≤ stride → Rows old d n n → Started n old d
all old d n h R =
    record {
      same = R.same;
      apart = λ i j p q ne. R.apart i p j q ne;
      table = fresh n (cell d) (omega arith) R.same (λ i j p q ne. R.apart i p j q ne);
      kept = record { right = R.right; below = R.below };
    }

pub loop-i-init : goal.loop-i-init
loop-i-init c =
    record { same = λ k l. absurd (omega arith); apart = λ k l j p ne. absurd (omega arith); right = λ k j p q. refl; below = λ k p. refl }

pub loop-i-preserved : goal.loop-i-preserved
loop-i-preserved c = more _ _ _ _ _ (omega arith) (omega arith) c.loop-i.invariant c.start_row.ensures

pub returns : goal.returns
returns c =
    let end : c.loop-i.i ≡ c.args.n = omega arith in
    all _ _ _ (omega arith) (rw end at c.loop-i.invariant)
