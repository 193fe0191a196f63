-- `sorted::first_from` meets its contract: no key from the counter on is below least.
-- Assumes nothing.
use Rattle.std.proofs.Common.{ℕ, ◌≤◌, ◌<◌, get_or}
use Rattle.sorted.proofs.first_from.Given as goal

abbrev pub invariant-loop-last : goal.invariant-loop-last
invariant-loop-last l = (q : ℕ) → l.last ≤ q → q < l.m → l.least ≤ get_or l.keys q 0
