-- `shelves::compare` meets its contract: what it has found is so of the terms before the counter.
-- Assumes nothing.
use Rattle.meaning.specs.Decides.{Decides}
use Rattle.shelves.specs.Rows.{Alike}
use Rattle.shelves.proofs.compare.Given as goal

abbrev pub invariant-loop-j : goal.invariant-loop-j
invariant-loop-j l = Decides (Alike l.keys l.v l.first l.second l.level l.j) l.alike
