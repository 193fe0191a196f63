-- `laid::lay` meets its contract: a turn for each tie of functions (proofs/Turn.antt).
-- Assumes nothing.
use Rattle.std.proofs.Common.{◌-◌, ◌≤◌}
use Rattle.laid.proofs.Laying.{Laying}
use Rattle.laid.proofs.lay.Given as goal

abbrev pub invariant-loop-e : goal.invariant-loop-e
invariant-loop-e l = (l.e ≤ l.listed) × Laying l.sheet l.list l.initial.names l.names l.ties l.labels l.m l.e l.t

abbrev pub decreases-loop-e : goal.decreases-loop-e
decreases-loop-e l = l.listed - l.e
