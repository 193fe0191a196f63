-- `recited::first_steps` meets its contract: the steps that are read are kept (proofs/Reading.antt).
-- Assumes nothing.
use Rattle.recited.proofs.Reading.{Reads, Kept}
use Rattle.recited.proofs.first_steps.Given as goal

abbrev pub invariant-loop-n : goal.invariant-loop-n
invariant-loop-n g l = Reads g.row.N l.bytes l.at l.n × Kept g.row.N l.bytes l.n l.steps
