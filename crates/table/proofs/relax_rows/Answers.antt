-- `table::relax_rows` meets its contract: the rows before the counter are relaxed (proofs/Rows.antt).
-- Assumes nothing.
use Prim.Native.Nat.{ℕ, ◌≤◌, ◌<◌}
use mathlib.Core.Path.{◌≡◌, ◌∙◌, ap}
use native.Mathlib.Omega.{arith}
use Rattle.kind.specs.Code.{sum_of}
use Rattle.table.proofs.Rows.{none_yet, asked, first, second, skipped, more}
use Rattle.table.proofs.relax_rows.Goals as goal

-- over numbers alone: in the needs themselves `omega` would read all that the function knows by then
within : {j to n : ℕ} → j < to → to ≤ n → j < n
within p q = omega arith

up_to : {j n m : ℕ} → j ≤ n → n ≤ m → j ≤ m
up_to p q = omega arith

pub loop-i-init : goal.loop-i-init
loop-i-init c = none_yet _ _ _ _ _

pub sum-via-requires : goal.sum-via-requires
sum-via-requires c =
    rw c.gap_at.ensures
    (first c.args.n _ _ _ _ (asked c.requires) c.loop-i.d c.loop-i.i c.loop-i-test.true c.loop-i.invariant)

pub relax_row-requires : goal.relax_row-requires
relax_row-requires c =
    let past = c.past_there-to in
    let size = c.requires.d_len in
    let via = c.sum-via.ensures.code ∙ ap (λ (x : ℕ). sum_of x c.args.g.0) c.gap_at.ensures in
    let row = c.row_of-row in
    let i< : c.loop-i.i < c.args.n = c.loop-i-test.true in record {
      d_len = (c.loop-i.auto.d ∙ size.0, within i< size.1, within size.3 size.1, past.ensures.0, up_to past.ensures.1 size.1);
      by_index = λ j p q. second _ _ _ _ _ (asked c.requires) c.loop-i.d c.loop-i.i i< c.loop-i.invariant row.result _ via row.ensures j (within q past.ensures.1);
      j_bound = λ h j p q. skipped _ _ _ _ _ (asked c.requires) c.loop-i.d c.loop-i.i i< c.loop-i.invariant row.result _ via row.ensures h j (within q past.ensures.1);
    }

pub loop-i-preserved : goal.loop-i-preserved
loop-i-preserved c =
    let via = c.sum-via.ensures.code ∙ ap (λ (x : ℕ). sum_of x c.args.g.0) c.gap_at.ensures in
    let row = c.row_of-row in
    more _ _ _ _ _ (asked c.requires) c.loop-i.d c.loop-i.i c.loop-i-test.true c.loop-i.invariant row.result _ via row.ensures _ _ c.past_there-to.ensures.1 c.first_there-from.ensures.1 c.past_there-to.ensures.2 _
    c.relax_row.ensures

pub returns : goal.returns
returns c =
    let end : c.loop-i.i ≡ c.args.n = omega arith in
    rw end at c.loop-i.invariant
