-- `surveyor::close` meets its contract.
-- Assumes nothing.
use mathlib.Core.Path.{refl}
use mathlib.Core.Bool.{false}
use native.Mathlib.Omega.{arith}
use Rattle.sets.proofs.Rows.{none-stored}
use Rattle.surveyor.proofs.Marking.{all-blank}
use Rattle.surveyor.proofs.Answering.{few, told-agree, told-otherwise, none-through, closes-early, closes-otherwise, closes-last}
use Rattle.surveyor.proofs.close.Goals as goal

pub overflow_cast-result : goal.overflow_cast-result
overflow_cast-result c = omega (arith, few c.requires.upright.known)

pub returns-then-n-count : goal.returns-then-n-count
returns-then-n-count c = closes-early c.requires.upright (omega (arith, c.count.ensures, c.if-n-count.true))

pub gather-requires : goal.gather-requires
gather-requires c =
    (c.requires.lent, record { listed = _; last = c.args.n; legs = _; among = omega arith; upright = c.requires.upright }, refl, refl)

pub same-requires : goal.same-requires
same-requires c =
    let pre = c.requires in
    let G = c.gather.ensures (none-through (none-stored 2 0)) in
    let L = pre.lent.well-formed.entries in
    let k = c.count_entries.ensures.0 in
    (omega (arith, pre.size), omega (arith, G.sizes.0))

pub overflow_cast-result-else-same : goal.overflow_cast-result-else-same
overflow_cast-result-else-same c = omega (arith, few c.requires.upright.known)

pub returns-then-same : goal.returns-then-same
returns-then-same c =
    let U = c.requires.upright in
    closes-last U (c.gather.ensures (none-through (none-stored 2 0))) (all-blank false 256)
    (omega (arith, c.count.ensures, c.if-n-count.false))
    (told-agree c.same.result _ _ _ c.same.ensures c.count_entries.ensures.0 c.if-same.true)

pub returns-else-same : goal.returns-else-same
returns-else-same c =
    let U = c.requires.upright in
    closes-otherwise U (c.gather.ensures (none-through (none-stored 2 0))) (all-blank false 256)
    (told-otherwise c.same.result _ _ _ c.same.ensures c.count_entries.ensures.0 c.if-same.false)
