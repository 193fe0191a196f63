-- `recited::has_steps` meets its contract: step by step (proofs/Counting.antt).
-- Assumes nothing.
use Prim.Native.Nat.{◌-◌}
use mathlib.Core.Path.{◌≡◌, sym}
use native.Mathlib.Omega.{arith}
use borrow.Author.Tests.{eqb-true, eqb-false}
use Rattle.recited.proofs.Counting.{Adds, none_passed, one-passed, all-passed, wrong-end}
use Rattle.recited.proofs.has_steps.Goals as goal
use Rattle.recited.proofs.has_steps.Goals.{then-record-at-lt2, else-record-at-lt2}

pub loop-init : goal.loop-init
loop-init c =
    let e : c.args.count - 0 ≡ c.args.count = omega arith in
    rw e (none_passed _ _ _ _ c.requires)

pub loop-preserved : goal.loop-preserved
loop-preserved c =
    let adds : Adds c.args.«record».now c.loop.at c.loop.found c.if-record-at-lt2.found = record {
      tie = λ b. (elim c.if-record-at-lt2.branch [ then-record-at-lt2 w ↦ omega arith | else-record-at-lt2 w ↦ omega arith ]);
      other = λ b. (elim c.if-record-at-lt2.branch [ then-record-at-lt2 w ↦ omega arith | else-record-at-lt2 w ↦ omega arith ]);
    } in
    one-passed c.loop.invariant (omega arith) (c.whole.ensures.yes c.if-not-whole.false) c.end-at.ensures adds

pub returns-then-at-record : goal.returns-then-at-record
returns-then-at-record c =
    let I = c.loop.invariant in
    record {
      yes = λ t. all-passed I (omega arith) c.if-at-record.true (sym (eqb-true _ _ t));
      no = λ t. wrong-end I (omega arith) (λ i j. eqb-false _ _ t (sym j));
    }
