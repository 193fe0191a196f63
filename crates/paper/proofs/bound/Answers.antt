-- `paper::bound` meets its contract: a name from 1024 on is a tie's, whose rank is written.
-- Assumes nothing.
use mathlib.Core.Path.{refl}
use native.Mathlib.Omega.{arith}
use Rattle.paper.proofs.Pieces.{two_bytes}
use Rattle.paper.proofs.Bounds.{other-bytes, tie-bytes}
use Rattle.paper.proofs.bound.Goals as goal
use Rattle.paper.proofs.bound.Goals.{then-name-ge-TIE, else-name-ge-TIE}

pub returns : goal.returns
returns c =
    elim c.if-name-ge-TIE.branch [
      | then-name-ge-TIE w ↦ rw w.room-is (two_bytes _ _ _ _ _ _ refl refl (omega arith) (tie-bytes _ _ (omega arith) c.requires.1.known))
      | else-name-ge-TIE w ↦ rw w.room-is (two_bytes _ _ _ _ _ _ refl refl (omega arith) (other-bytes _ _ (omega arith)))
    ]
