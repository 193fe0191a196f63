-- `passes::pass` meets its contract: the terms before the counter are passed, and their keys listed (proofs/Groups.antt).
-- Assumes nothing.
use mathlib.Core.Path.{◌≡◌, refl}
use native.Mathlib.Omega.{arith}
use Rattle.std.proofs.lemmas.Result.{err_from_is_err_and}
use Rattle.sheet.specs.Decode.{sheet_of}
use Rattle.sheet.specs.Sheet.{count_terms}
use Rattle.sorted.proofs.Inserted.{ascending-none, ascending-more}
use Rattle.pairs.proofs.Passes.{same, sofar-table, more, ended, clash-after}
use Rattle.groups.proofs.Groups.{no-terms, one-term}
use Rattle.passes.proofs.pass.Goals as goal

pub loop-i-init : goal.loop-i-init
loop-i-init c = (refl, ascending-none _, same c.requires.d_len.1 no-terms)

pub pass_term-requires : goal.pass_term-requires
pass_term-requires c = record {
  i_bound = omega arith;
  keys_len = (c.loop-i.invariant.0, c.loop-i.invariant.1);
  d_len = (omega arith, sofar-table _ c.loop-i.invariant.2);
}

pub returns-in_err-fresh : goal.returns-in_err-fresh
returns-in_err-fresh c =
    let p = err_from_is_err_and c.from_residual.result c.from_residual.ensures.1 in
    rw p.1 (clash-after _ c.loop-i.invariant.2 c.in_err-fresh.ensures.passing)

pub loop-i-preserved : goal.loop-i-preserved
loop-i-preserved c =
    let K = c.in_ok-fresh.ensures.put in
    (omega arith, ascending-more K.put c.loop-i.invariant.1, more _ (one-term K) c.loop-i.invariant.2 c.in_ok-fresh.ensures.passing)

pub returns : goal.returns
returns c =
    let end : c.loop-i.i ≡ count_terms c.args.sheet.now = omega arith in
    ended _ (λ e A. A.rows) (rw end at c.loop-i.invariant.2)
