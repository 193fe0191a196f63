-- `rows::wrong_entry` meets its contract: the code's test computes to the definition's.
-- Assumes nothing.
use mathlib.Core.Path.{refl}
use Rattle.grounds.specs.Rows.{wrong_entry}
use Rattle.rows.proofs.wrong_entry.Goals as goal

pub returns : goal.returns
unfolding wrong_entry
returns c = refl
