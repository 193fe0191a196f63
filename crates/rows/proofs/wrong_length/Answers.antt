-- `rows::wrong_length` meets its contract: bytes 0-1 are read only where they are there.
-- Assumes nothing.
use borrow.Author.Tests.{lt-ltb, le-ltb}
use Rattle.grounds.specs.Rows.{wrong_length}
use Rattle.rows.proofs.wrong_length.Goals as goal

pub returns-then-sheet-lt6 : goal.returns-then-sheet-lt6
unfolding wrong_length
returns-then-sheet-lt6 c = rw (lt-ltb _ _ c.if-sheet-lt6.true)

pub returns : goal.returns
unfolding wrong_length
returns c = rw (le-ltb _ _ c.if-sheet-lt6.false, c.read.ensures.0)
