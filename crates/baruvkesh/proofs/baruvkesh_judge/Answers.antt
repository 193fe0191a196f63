-- `baruvkesh::baruvkesh_judge` meets its contract: number and place are read back from the one number.
-- Assumes nothing.
use native.Mathlib.Omega.{arith}
use Rattle.promise.specs.Answered.{Answered}
use Rattle.baruvkesh.proofs.Halves.{read_back}
use Rattle.baruvkesh.proofs.baruvkesh_judge.Goals as goal

pub returns : goal.returns
returns c =
    read_back (Answered _ _ _) 65536 _ (omega arith) (omega arith) c.judge-answer.ensures
