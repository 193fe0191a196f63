-- `surveyor::prepare` meets its contract: the table decides first, then the list.
-- Assumes nothing.
use Prim.Native.Nat.{ℕ}
use mathlib.Core.Path.{sym, ap, ◌∙◌}
use Rattle.std.proofs.lemmas.Result.{err_from_is_err_and}
use native.Mathlib.Omega.{arith}
use lib.ListN.{length, length-replicate}
use Rattle.grounds.proofs.Fine.{fine-formed}
use Rattle.grounds.proofs.Replies.{fine-sheet}
use Rattle.surveyor.specs.Inside.{ReadySays}
use Rattle.surveyor.proofs.Join.{list-none, list-some, all-fine}
use Rattle.surveyor.proofs.prepare.Goals as goal

pub bounds-sheet-4 : goal.bounds-sheet-4
bounds-sheet-4 c = omega (arith, (fine-formed _ (fine-sheet _ _ (sym c.in_ok-check.ensures)).0).0.whole)

pub returns-then-not-rises : goal.returns-then-not-rises
unfolding ReadySays
returns-then-not-rises c =
    (sym c.in_ok-check.ensures, list-none _ _ _ _ c.rises.ensures c.if-not-rises.true)

pub of-requires : goal.of-requires
of-requires c =
    fine-formed _ (fine-sheet _ _ (sym c.in_ok-check.ensures)).0

pub lay-requires : goal.lay-requires
lay-requires c = (
  (list-some c.args.sheet.now c.args.list.now _ c.rises.result c.rises.ensures c.if-not-rises.false).size,
  ap length c.requires.1 ∙ length-replicate {A = ℕ} 768 0,
)

pub returns-in_err-check : goal.returns-in_err-check
unfolding ReadySays
returns-in_err-check c =
    let told = err_from_is_err_and c.from_residual.result c.from_residual.ensures.1 in
    rw (told.1, told.2) (sym c.in_err-check.ensures)

pub returns : goal.returns
unfolding ReadySays
returns c =
    all-fine c.requires.1 (sym c.in_ok-check.ensures)
    (list-some _ _ _ _ c.rises.ensures c.if-not-rises.false) (rw c.of.ensures at c.lay.ensures)
