-- `writing::head` meets its contract: the number's digits are the head.
-- Assumes nothing.
use Rattle.std.proofs.Common.{arith}
use Rattle.writing.proofs.Heads.{headed}
use Rattle.writing.proofs.head.Goals as goal

pub returns : goal.returns
returns c =
    let wrote = c.write.ensures in
    headed (λ k. (c.type_inv.room k).fits) (omega arith) c.requires.2 (omega (arith, wrote.0)) wrote.1
