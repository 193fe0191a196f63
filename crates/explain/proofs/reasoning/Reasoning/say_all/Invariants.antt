-- `explain::reasoning::Reasoning::say_all` is safe: a step has less than 2 ^ 16 bytes, so where the next one begins fits.
-- Assumes nothing.
use Rattle.std.proofs.Common.{◌+◌, ◌*◌, ◌≤◌}
use Rattle.explain.proofs.reasoning.Reasoning.say_all.Given as goal

abbrev pub invariant-loop-n : goal.invariant-loop-n
invariant-loop-n g l = l.at ≤ (l.n-counter + 2) * 65535
