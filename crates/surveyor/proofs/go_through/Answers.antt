-- `surveyor::go_through` meets its contract. The loop's invariant: the first n steps have passed.
-- Assumes nothing.
use Prim.Native.Nat.{◌<◌}
use mathlib.Core.Path.{◌≡◌}
use native.Mathlib.Omega.{arith}
use lib.ListN.{length}
use Rattle.surveyor.proofs.Noting.{none-laid, one-laid, none_passed, asked, lent, tie-fits, passed-more}
use Rattle.surveyor.proofs.Answering.{few, ruled-wrong, ruled-ties, ruled-closes, no-closing-step}
use Rattle.surveyor.proofs.go_through.Goals as goal

pub loop-n-init : goal.loop-n-init
loop-n-init c = record { passed = none_passed c.requires; laid = none-laid }

pub ruling_on-requires : goal.ruling_on-requires
ruling_on-requires c = (asked c.requires c.loop-n.invariant.passed, c.requires.size)

pub overflow_cast-result : goal.overflow_cast-result
overflow_cast-result c = omega (arith, few c.loop-n.invariant.passed.known)

pub returns-in-Wrong : goal.returns-in-Wrong
returns-in-Wrong c =
    let P = c.loop-n.invariant.passed in
    let there : c.loop-n.n < length c.args.steps.now = omega (arith, c.count-count.ensures) in
    let wrong = ruled-wrong P there _ c.step_at-s.ensures _ (c.ruling_on.ensures _ _ P.known) c.in-Wrong.is in
    (wrong, c.loop-n.invariant.laid)

pub close-requires : goal.close-requires
close-requires c =
    let P = c.loop-n.invariant.passed in
    let there : c.loop-n.n < length c.args.steps.now = omega (arith, c.count-count.ensures) in
    record {
      lent = lent c.requires P;
      size = c.requires.size;
      legs = _;
      upright = ruled-closes P there _ c.step_at-s.ensures _ (c.ruling_on.ensures _ _ P.known) c.in-Closes.is;
    }

pub overflow_cast-n : goal.overflow_cast-n
overflow_cast-n c = omega (arith, few c.loop-n.invariant.passed.known)

pub note-requires : goal.note-requires
note-requires c =
    let P = c.loop-n.invariant.passed in
    let there : c.loop-n.n < length c.args.steps.now = omega (arith, c.count-count.ensures) in
    let right = ruled-ties P there _ c.step_at-s.ensures _ (c.ruling_on.ensures _ _ P.known) c.in-Ties.is in (
      P.known.legs-are.size,
      P.known.links-are.size,
      P.known.links-are.rising,
      P.traced.size,
      tie-fits c.requires.well-formed there c.step_at-s.ensures P right,
    )

pub loop-n-preserved : goal.loop-n-preserved
loop-n-preserved c =
    let P = c.loop-n.invariant.passed in
    let there : c.loop-n.n < length c.args.steps.now = omega (arith, c.count-count.ensures) in
    let right = ruled-ties P there _ c.step_at-s.ensures _ (c.ruling_on.ensures _ _ P.known) c.in-Ties.is in
    let noted = c.note.ensures in
    record {
      passed = passed-more c.requires.well-formed there c.step_at-s.ensures P right noted.leg noted.path noted.groups;
      laid = one-laid _ _ noted.leg c.loop-n.invariant.laid;
    }

pub overflow_cast-result-2 : goal.overflow_cast-result-2
overflow_cast-result-2 c = omega (arith, few c.loop-n.invariant.passed.known)

pub returns : goal.returns
returns c =
    let end : c.loop-n.n ≡ c.count-count.result = omega arith in
    (rw (← end) (no-closing-step c.loop-n.invariant.passed (omega (arith, c.count-count.ensures))), c.loop-n.invariant.laid)
