-- `blame::leave_out` meets its contract: one more entry is done (order, `GoneDown`).
-- Assumes nothing.
use native.Mathlib.Omega.{arith}
use borrow.Author.Tests.{not-true, not-false}
use Rattle.cells.proofs.Keeps.{kept-all, kept_on}
use Rattle.order.specs.Down.{start}
use Rattle.order.proofs.Laws.{number-ties}
use Rattle.order.proofs.Greedy.{ends-first}
use Rattle.order.proofs.Marks.{number-leaves, number-keeps}
use Rattle.meaning.proofs.Meaning.{clashes-upward}
use Rattle.blame.proofs.leave_out.Goals as goal

pub loop-r-init : goal.loop-r-init
loop-r-init c =
    (kept-all _ _, start {r = c.count_entries-r.result} c.requires.clashes.0 c.requires.clashes.1 (λ x l. omega arith))

pub loop-r-preserved-then-not-clashes : goal.loop-r-preserved-then-not-clashes
loop-r-preserved-then-not-clashes c =
    let loop = c.loop-r in (
      kept_on loop.invariant.0 c.clashes.ensures.kept,
      number-keeps _ loop.marks (omega arith) (omega arith) (omega arith) loop.invariant.1 (clashes-upward _) (c.clashes.ensures.decides.no (not-true _ c.if-not-clashes.true-raw)),
    )

pub loop-r-preserved : goal.loop-r-preserved
loop-r-preserved c =
    let loop = c.loop-r in (
      kept_on loop.invariant.0 c.clashes.ensures.kept,
      number-leaves _ loop.marks (omega arith) (omega arith) (omega arith) loop.invariant.1 (c.clashes.ensures.decides.yes (not-false _ c.if-not-clashes.false-raw)),
    )

pub returns-clause-first : goal.returns-clause-first
returns-clause-first c = ends-first (number-ties _) (clashes-upward _) c.loop-r.invariant.1 (λ x l. omega arith)
