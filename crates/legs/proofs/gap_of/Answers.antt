-- `legs::gap_of` meets its contract: c less what it is biased by, in two's complement (proofs/Words.antt).
-- Assumes nothing.
use native.Mathlib.Omega.{arith}
use Rattle.legs.proofs.Words.{biased-gap}
use Rattle.legs.proofs.gap_of.Goals as goal

pub returns : goal.returns
returns c = (biased-gap c.args.c.0 (omega arith), omega arith)
