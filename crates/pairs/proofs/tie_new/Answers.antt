-- `pairs::tie_new` meets its contract: the answers of proofs/Pairs.antt.
-- Assumes nothing.
use native.Mathlib.Omega.{arith}
use Rattle.pairs.specs.Passing.{already}
use Rattle.pairs.proofs.Pairs.{tied-new}
use Rattle.pairs.proofs.tie_new.Goals as goal

pub returns-then-tied_at : goal.returns-then-tied_at
returns-then-tied_at c = already (c.tied_at.ensures.yes c.if-tied_at.true)

pub returns-then-put_tie : goal.returns-then-put_tie
returns-then-put_tie c =
    rw c.if-put_tie.true at (tied-new (omega arith) (omega arith) (c.tied_at.ensures.no c.if-tied_at.false) c.put_tie.ensures)

pub returns-else-put_tie : goal.returns-else-put_tie
returns-else-put_tie c =
    rw c.if-put_tie.false at (tied-new (omega arith) (omega arith) (c.tied_at.ensures.no c.if-tied_at.false) c.put_tie.ensures)
