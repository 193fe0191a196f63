-- `needed::find` meets its contract: the first x numbers of the walk are copied, and their ties marked.
-- Assumes nothing.
use Rattle.std.proofs.Common.{◌+◌}
use Rattle.needed.proofs.Copying.{Copied}
use Rattle.needed.proofs.find.Given as goal

abbrev pub invariant-loop-x : goal.invariant-loop-x
invariant-loop-x l = Copied l.names l.out (l.head + 1) l.x l.initial.walks l.walks l.initial.need l.need
