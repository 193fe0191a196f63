-- `groups::pass_group` meets its contract: the pairs before the counter's place are passed (proofs/Groups.antt).
-- Assumes nothing.
use mathlib.Core.Path.{◌≡◌}
use native.Mathlib.Omega.{arith}
use Rattle.std.proofs.Common.{rules}
use Rattle.std.proofs.lemmas.Result.{err_from_is_err_and}
use Rattle.pairs.proofs.Passes.{same, sofar-table, more, ended, clash-after}
use Rattle.groups.proofs.Groups.{none-paired, one-paired}
use Rattle.groups.proofs.pass_group.Goals as goal

pub loop-q-init : goal.loop-q-init
loop-q-init c = same c.requires.d_len.1 (none-paired c.first_from-q.ensures _)

pub pass_pair-requires-clause-d_len : goal.pass_pair-requires-clause-d_len
pass_pair-requires-clause-d_len c = (omega arith, sofar-table _ c.loop-q.invariant)

pub returns-in_err-fresh : goal.returns-in_err-fresh
returns-in_err-fresh c =
    let p = err_from_is_err_and c.from_residual.result c.from_residual.ensures.1 in
    rw p.1 (clash-after _ c.loop-q.invariant c.in_err-fresh.ensures)

pub loop-q-preserved : goal.loop-q-preserved
loop-q-preserved c = search (rules, more, one-paired)

pub returns : goal.returns
returns c =
    let end : c.loop-q.q ≡ c.args.place = omega (arith, c.first_from-q.ensures.within) in
    ended _ (λ e G. G) (rw end at c.loop-q.invariant)
