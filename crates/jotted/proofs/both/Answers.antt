-- `jotted::both` meets its contract.
-- Assumes nothing.
use Rattle.jotted.proofs.Places.{weak-to, weak-back}
use Rattle.jotted.proofs.both.Goals as goal

pub returns : goal.returns
returns c =
    record {
      between = _;
      there = rw (weak-to _ _ c.to.ensures) at c.one.ensures;
      back = rw (weak-back _ _ c.back.ensures) at c.one-2.ensures;
    }
