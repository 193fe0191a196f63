-- `batch_survey::answer_steps` is safe: each step that is read has room for the longest.
-- Assumes nothing.
use Rattle.std.proofs.Common.{◌*◌, ◌≤◌}
use Rattle.recited.specs.Recited.{longest}
use Rattle.batch_survey.proofs.answer_steps.Given as goal

abbrev pub invariant-loop : goal.invariant-loop
invariant-loop g l = l.at ≤ l.counter * longest
