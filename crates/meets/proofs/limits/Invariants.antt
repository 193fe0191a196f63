-- `meets::limits` meets its contract: what it has found is so of the levels before the counter.
-- Assumes nothing.
use mathlib.Core.Path.{◌≡◌}
use lib.ListN.{get_or}
use Rattle.meaning.specs.Decides.{Decides}
use Rattle.meets.proofs.Counted.{Limited}
use Rattle.meets.proofs.limits.Given as goal

abbrev pub invariant-loop-x : goal.invariant-loop-x
invariant-loop-x l = (l.zero ≡ get_or l.v l.t 0) × Decides (Limited l.v l.t l.x-index) l.near
