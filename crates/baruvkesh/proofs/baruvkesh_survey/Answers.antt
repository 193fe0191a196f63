-- `baruvkesh::baruvkesh_survey` meets its contract.
-- Assumes nothing.
use native.Mathlib.Omega.{arith}
use Rattle.recited.specs.Recited.{Recited}
use Rattle.baruvkesh.proofs.Halves.{read_back}
use Rattle.baruvkesh.proofs.baruvkesh_survey.Goals as goal

pub returns : goal.returns
returns c =
    read_back (Recited _ _ _) 4294967296 _ (omega arith) (omega arith) c.check-told.ensures
