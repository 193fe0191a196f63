-- `lines::text` meets its contract: it goes on from line to line, and the first slip ends it.
-- Assumes nothing.
use native.Mathlib.Omega.{arith}
use Rattle.lines.proofs.Onward.{set_out, ended, next-line, slipped, one-too-many, begins-none, empty, whole}
use Rattle.lines.proofs.text.Goals as goal

pub loop-i-init : goal.loop-i-init
loop-i-init c = set_out _ _ c.requires

pub returns-then-begins : goal.returns-then-begins
returns-then-begins c = one-too-many c.loop-i.invariant (omega arith) (omega arith) c.begins.ensures c.byte_at.ensures c.if-begins.true

pub returns-then-l-eq-MAX_ENTRIES : goal.returns-then-l-eq-MAX_ENTRIES
returns-then-l-eq-MAX_ENTRIES c = begins-none c.loop-i.invariant (omega arith) c.begins.ensures c.byte_at.ensures c.if-begins.false

pub loop-i-smaller : goal.loop-i-smaller
loop-i-smaller c =
    let far = c.loop-i.invariant in
    let few = far.reading.few in
    let count = far.count in
    omega (arith, (ended far (omega arith) (omega arith) c.in_ok-i.ensures).begins)

pub loop-i-preserved : goal.loop-i-preserved
loop-i-preserved c =
    let far = c.loop-i.invariant in
    let few = far.reading.few in
    let count = far.count in
    next-line far (omega arith) (omega arith) c.in_ok-i.ensures

pub returns-in_err-i : goal.returns-in_err-i
returns-in_err-i c =
    let far = c.loop-i.invariant in
    let few = far.reading.few in
    let count = far.count in
    slipped far (omega arith) (omega arith) _ _ c.in_err-i.ensures c.from_residual.ensures.1

pub returns-then-l-eq0 : goal.returns-then-l-eq0
returns-then-l-eq0 c = empty c.loop-i.invariant (omega arith) c.if-l-eq0.true

pub returns : goal.returns
returns c = whole c.loop-i.invariant (omega arith) c.if-l-eq0.false
