-- `meets::terms` meets its contract: the terms before the counter are as the meaning asks, and their keys are kept.
-- Assumes nothing.
use Prim.Native.Nat.{ℕ, ◌<◌}
use mathlib.Core.Path.{◌≡◌}
use native.Mathlib.Omega.{arith}
use Rattle.sheet.specs.Sheet.{Term, Sheet, ArgumentsBelow, WellFormed, count_terms, term_at}
use Rattle.sheet.proofs.Below.{arguments-wider}
use Rattle.meaning.proofs.Decides.{refuted}
use Rattle.rules.proofs.Values.{level-low}
use Rattle.meets.proofs.Keyed.{input, keyed-more, kept_more, row-functional, functional-row}
use Rattle.meets.proofs.Counted.{both_told, term_told, terms-more}
use Rattle.meets.proofs.terms.Goals as goal

-- what the term that is read lets the other functions ask for
asked : {s : Sheet} {t i : ℕ} {x : Term} → WellFormed s → t ≡ count_terms s → i < t → x ≡ term_at s i → ArgumentsBelow t x
asked {s} {t} {i} W p l e = rw e (arguments-wider (omega arith) (W.arguments i (omega arith)))

pub input_of-input-requires : goal.input_of-input-requires
input_of-input-requires c =
    let pre = c.requires in
    (pre.t_value.2, asked c.count_terms-i-end.ensures.formed pre.t_value.0 (omega arith) c.term_at-x.ensures)

pub defined-requires : goal.defined-requires
defined-requires c =
    let pre = c.requires in
    (pre.t_value.2, pre.t_value.1, level-low c.loop-i.i pre.t_value.2 (omega arith), asked c.count_terms-i-end.ensures.formed pre.t_value.0 (omega arith) c.term_at-x.ensures)

pub loop-i-preserved : goal.loop-i-preserved
loop-i-preserved c =
    let row = c.row-agrees.ensures in
    let kept = c.loop-i.invariant.1 in
    let own = input c.requires.t_value.0 c.term_at-x.ensures c.input_of-input.ensures in
    let told = term_told c.args.sheet.now c.args.d c.loop-i.i c.args.v.now c.requires.t_value.0 c.term_at-x.ensures c.defined.ensures in
    let (agrees, defined) = (both_told _ _ row.agrees told).yes c.if-not-agrees-defined.false in (
      c.loop-i.invariant.0,
      kept_more kept (omega arith) own row.stored row.shelved,
      terms-more c.loop-i.invariant.2 defined (row-functional (keyed-more kept (omega arith) own row.stored) own agrees),
    )

pub returns-then-not-agrees-defined : goal.returns-then-not-agrees-defined
returns-then-not-agrees-defined c =
    let pre = c.requires in
    let row = c.row-agrees.ensures in
    let kept = c.loop-i.invariant.1 in
    let own = input pre.t_value.0 c.term_at-x.ensures c.input_of-input.ensures in
    let told = term_told c.args.sheet.now c.args.d c.loop-i.i c.args.v.now pre.t_value.0 c.term_at-x.ensures c.defined.ensures in
    refuted (λ m. (both_told _ _ row.agrees told).no c.if-not-agrees-defined.true (
      functional-row (keyed-more kept (omega arith) own row.stored) own c.count_terms-i-end.ensures.formed (rw pre.t_value.0 at pre.t_value.2.near) (omega arith)
          (m.functions c.loop-i.i (omega arith)),
      m.defined c.loop-i.i (omega arith),
    ))
