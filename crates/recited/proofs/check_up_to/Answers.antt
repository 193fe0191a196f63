-- `recited::check_up_to` meets its contract (proofs/First.antt).
-- Assumes nothing.
use native.Mathlib.Omega.{arith}
use Rattle.recited.proofs.First.{recited-first}
use Rattle.recited.proofs.check_up_to.Goals as goal

pub shared_whole_as_front-check : goal.shared_whole_as_front-check
shared_whole_as_front-check g c = (c.requires.1, omega arith)

pub returns : goal.returns
returns g c = recited-first c.first_steps-steps.ensures c.requires.0 c.requires.1 c.check.ensures
