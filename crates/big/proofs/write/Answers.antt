-- `big::write` meets its contract: the bytes are written from the last to the first (Writing.antt).
-- Assumes nothing.
use Rattle.std.proofs.Common.{◌≡◌, arith}
use Rattle.big.proofs.Writing.{write_again, write-end}
use Rattle.big.proofs.write.Goals as goal

pub loop-k-preserved : goal.loop-k-preserved
loop-k-preserved c = write_again _ _ _ _ _ _ _ (omega arith) (omega arith) (omega arith) c.loop-k.invariant

pub returns : goal.returns
returns c =
    let e : c.loop-k.k ≡ 0 = omega arith in
    write-end _ _ _ _ _ _ (rw e at c.loop-k.invariant)
