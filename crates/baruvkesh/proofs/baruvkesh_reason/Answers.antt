-- `baruvkesh::baruvkesh_reason` meets its contract.
-- Assumes nothing.
use native.Mathlib.Omega.{arith}
use Rattle.reason.specs.Reasoned.{Reasoned}
use Rattle.baruvkesh.proofs.Halves.{read_back}
use Rattle.baruvkesh.proofs.baruvkesh_reason.Goals as goal

pub returns : goal.returns
returns c =
    read_back (Reasoned _ _ _) 4294967296 _ (omega arith) (omega arith) c.reason-reply.ensures
