-- `needed::arguments` meets its contract: the paths between first arguments are marked, then between second, where there are two
-- (proofs/Arguing.antt).
-- Assumes nothing.
use Rattle.std.proofs.Common.{arith}
use Rattle.laid.proofs.Inputs.{points-below, applied, applied2, one-below, two-below, other-one, other-two, other-none, in-one, in-two}
use Rattle.needed.proofs.Arguing.{argued-one, argued-two}
use Rattle.needed.proofs.arguments.Goals as goal
use Rattle.needed.proofs.arguments.Goals.{in_default-via-in-Apply+in_default, in_default-via-in-Apply2+in_default, in_default-via-in_default}

pub mark-requires-clause-labels_len : goal.mark-requires-clause-labels_len
mark-requires-clause-labels_len c =
    let pre = c.requires.all_points in
    let wf = c.formed.ensures in
    let own = one-below c.term_at-own.ensures (points-below _ _ pre.0 wf pre.1) c.in-Apply-Apply.is-0 in
    let other = one-below c.term_at-other.ensures (points-below _ _ pre.0 wf pre.2) c.in-Apply-Apply.is-1 in
    omega (arith, wf.terms)

pub mark-requires-clause-labelled : goal.mark-requires-clause-labelled
mark-requires-clause-labelled c =
    let L = c.requires.labelled in
    (L.0, (in-one c.term_at-own.ensures c.term_at-other.ensures L.1 c.in-Apply-Apply.is-0 c.in-Apply-Apply.is-1).1)

pub mark-requires-in-Apply2-Apply2-clause-labels_len : goal.mark-requires-in-Apply2-Apply2-clause-labels_len
mark-requires-in-Apply2-Apply2-clause-labels_len c =
    let pre = c.requires.all_points in
    let wf = c.formed.ensures in
    let own = two-below c.term_at-own.ensures (points-below _ _ pre.0 wf pre.1) c.in-Apply2-Apply2.is-0 in
    let other = two-below c.term_at-other.ensures (points-below _ _ pre.0 wf pre.2) c.in-Apply2-Apply2.is-1 in
    omega (arith, wf.terms)

pub mark-requires-in-Apply2-Apply2-clause-labelled : goal.mark-requires-in-Apply2-Apply2-clause-labelled
mark-requires-in-Apply2-Apply2-clause-labelled c =
    let L = c.requires.labelled in
    (L.0, omega (arith, in-two c.term_at-own.ensures c.term_at-other.ensures L.1 c.in-Apply2-Apply2.is-0 c.in-Apply2-Apply2.is-1))

pub mark-requires-in-Apply2-Apply2-2-clause-labels_len : goal.mark-requires-in-Apply2-Apply2-2-clause-labels_len
mark-requires-in-Apply2-Apply2-2-clause-labels_len c =
    let pre = c.requires.all_points in
    let wf = c.formed.ensures in
    let own = two-below c.term_at-own.ensures (points-below _ _ pre.0 wf pre.1) c.in-Apply2-Apply2.is-0 in
    let other = two-below c.term_at-other.ensures (points-below _ _ pre.0 wf pre.2) c.in-Apply2-Apply2.is-1 in
    omega (arith, wf.terms)

pub mark-requires-in-Apply2-Apply2-2-clause-labelled : goal.mark-requires-in-Apply2-Apply2-2-clause-labelled
mark-requires-in-Apply2-Apply2-2-clause-labelled c =
    let L = c.requires.labelled in
    (L.0, omega (arith, in-two c.term_at-own.ensures c.term_at-other.ensures L.1 c.in-Apply2-Apply2.is-0 c.in-Apply2-Apply2.is-1))

pub unreachable-requires : goal.unreachable-requires
unreachable-requires c =
    let P = c.term_at-own.ensures in
    let Q = c.term_at-other.ensures in
    let I = c.requires.labelled.1 in
    elim c.in_default.branch [
      | in_default-via-in-Apply+in_default w ↦ other-one P Q I w.in_default.is-0 w.in_default.not-Apply-1
      | in_default-via-in-Apply2+in_default w ↦ other-two P Q I w.in_default.is-0 w.in_default.not-Apply2-1
      | in_default-via-in_default w ↦ other-none P I w.in_default.not-Apply-0 w.in_default.not-Apply2-0
    ]

pub returns-in-Apply-Apply : goal.returns-in-Apply-Apply
returns-in-Apply-Apply c =
    let P = c.term_at-own.ensures in
    let Q = c.term_at-other.ensures in
    let W = c.in-Apply-Apply in
    argued-one (applied P W.is-0) (applied Q W.is-1) (in-one P Q c.requires.labelled.1 W.is-0 W.is-1).0 c.mark.ensures

pub returns-in-Apply2-Apply2 : goal.returns-in-Apply2-Apply2
returns-in-Apply2-Apply2 c =
    let P = c.term_at-own.ensures in
    let Q = c.term_at-other.ensures in
    let W = c.in-Apply2-Apply2 in
    argued-two (applied2 P W.is-0) (applied2 Q W.is-1) (in-two P Q c.requires.labelled.1 W.is-0 W.is-1).0 c.mark-in-Apply2-Apply2.ensures
    c.mark-in-Apply2-Apply2-2.ensures
