-- `recited::size` meets its contract: the bounds that its head counts.
-- Assumes nothing.
use borrow.Author.Rules.{rules}
use Rattle.recited.specs.Recited.{size_at}
use Rattle.recited.proofs.size.Goals as goal

pub returns : goal.returns
unfolding size_at
returns c = search rules
