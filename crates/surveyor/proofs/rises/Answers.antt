-- `surveyor::rises` meets its contract. The loop's invariant: the first numbers of the list rise below L and are those marked.
-- Assumes nothing.
use native.Mathlib.Omega.{arith}
use borrow.Author.Tests.{leb-true}
use Rattle.surveyor.specs.Inside.{RisesSays}
use Rattle.surveyor.proofs.Marking.{none_yet, one_more, falls, none_left}
use Rattle.surveyor.proofs.rises.Goals as goal
use Rattle.surveyor.proofs.rises.Goals.{then-e-least-via-then-e-least, then-e-least-via-else-e-least+then-entries-e}

pub loop-e-init : goal.loop-e-init
loop-e-init c = rw c.requires (none_yet _ _)

pub returns-then-e-least : goal.returns-then-e-least
unfolding RisesSays
returns-then-e-least c =
    λ R. (elim c.then-e-least.branch [
      | then-e-least-via-then-e-least t ↦ falls c.loop-e.invariant c.loop-e-test.true t.if-e-least.true R
      | then-e-least-via-else-e-least+then-entries-e t ↦ let l = R.below _ c.loop-e-test.true in omega (arith, leb-true)
    ])

pub loop-e-preserved : goal.loop-e-preserved
loop-e-preserved c =
    one_more c.loop-e.invariant c.loop-e-test.true c.if-e-least.false c.if-entries-e.false (c.type_inv.list c.loop-e.e-index).fits

pub returns : goal.returns
unfolding RisesSays
returns c = none_left c.loop-e.invariant c.loop-e-test.false (omega arith)
