-- `laid::arguments` meets its contract: first arguments are tied, then second, where there are two (proofs/Inputs.antt).
-- Assumes nothing.
use Rattle.std.proofs.Common.{arith}
use Rattle.laid.proofs.Inputs.{points-below, one-below, two-below, other-one, other-two, other-none, one-tied, two-tied}
use Rattle.laid.proofs.arguments.Goals as goal
use Rattle.laid.proofs.arguments.Goals.{in_default-via-in-Apply+in_default, in_default-via-in-Apply2+in_default, in_default-via-in_default}

pub tie_up-requires-clause-ties_len : goal.tie_up-requires-clause-ties_len
tie_up-requires-clause-ties_len c =
    let wf = c.formed.ensures in
    let own = one-below c.term_at-own.ensures (points-below _ _ c.requires.all_points wf c.requires.i_bound.0) c.in-Apply-Apply.is-0 in
    let other = one-below c.term_at-other.ensures (points-below _ _ c.requires.all_points wf c.requires.i_bound.1) c.in-Apply-Apply.is-1 in
    omega (arith, wf.terms)

pub tie_up-u-requires-clause-ties_len : goal.tie_up-u-requires-clause-ties_len
tie_up-u-requires-clause-ties_len c =
    let wf = c.formed.ensures in
    let own = two-below c.term_at-own.ensures (points-below _ _ c.requires.all_points wf c.requires.i_bound.0) c.in-Apply2-Apply2.is-0 in
    let other = two-below c.term_at-other.ensures (points-below _ _ c.requires.all_points wf c.requires.i_bound.1) c.in-Apply2-Apply2.is-1 in
    omega (arith, wf.terms)

pub tie_up-requires-in-Apply2-Apply2-clause-ties_len : goal.tie_up-requires-in-Apply2-Apply2-clause-ties_len
tie_up-requires-in-Apply2-Apply2-clause-ties_len c =
    let wf = c.formed.ensures in
    let own = two-below c.term_at-own.ensures (points-below _ _ c.requires.all_points wf c.requires.i_bound.0) c.in-Apply2-Apply2.is-0 in
    let other = two-below c.term_at-other.ensures (points-below _ _ c.requires.all_points wf c.requires.i_bound.1) c.in-Apply2-Apply2.is-1 in
    omega (arith, wf.terms)

pub unreachable-requires : goal.unreachable-requires
unreachable-requires c =
    let P = c.term_at-own.ensures in
    let Q = c.term_at-other.ensures in
    let I = c.requires.i_bound.2.joined in
    elim c.in_default.branch [
      | in_default-via-in-Apply+in_default w ↦ other-one P Q I w.in_default.is-0 w.in_default.not-Apply-1
      | in_default-via-in-Apply2+in_default w ↦ other-two P Q I w.in_default.is-0 w.in_default.not-Apply2-1
      | in_default-via-in_default w ↦ other-none P I w.in_default.not-Apply-0 w.in_default.not-Apply2-0
    ]

pub returns-in-Apply-Apply : goal.returns-in-Apply-Apply
returns-in-Apply-Apply c =
    one-tied c.term_at-own.ensures c.term_at-other.ensures c.requires.i_bound.2 c.in-Apply-Apply.is-0 c.in-Apply-Apply.is-1 c.tie_up.ensures

pub returns-in-Apply2-Apply2 : goal.returns-in-Apply2-Apply2
returns-in-Apply2-Apply2 c =
    let wf = c.formed.ensures in
    let own = two-below c.term_at-own.ensures (points-below _ _ c.requires.all_points wf c.requires.i_bound.0) c.in-Apply2-Apply2.is-0 in
    let other = two-below c.term_at-other.ensures (points-below _ _ c.requires.all_points wf c.requires.i_bound.1) c.in-Apply2-Apply2.is-1 in
    two-tied c.term_at-own.ensures c.term_at-other.ensures c.requires.i_bound.2 c.in-Apply2-Apply2.is-0 c.in-Apply2-Apply2.is-1 (own.0, other.0)
    c.tie_up-u.ensures c.tie_up-in-Apply2-Apply2.ensures
