-- `paper::head` meets its contract: a number, two bytes, and two numbers.
-- Assumes nothing.
use mathlib.Core.Path.{refl}
use lib.ListN.{length-set}
use native.Mathlib.Omega.{arith}
use Rattle.paper.specs.Record.{head_bytes}
use Rattle.paper.proofs.Pieces.{two_bytes, number, then}
use Rattle.paper.proofs.head.Goals as goal

pub returns : goal.returns
unfolding head_bytes
returns c =
    let long = simp length-set at c.write-2.auto.out in
    then
    (then
    (then
    (number 4 refl (omega arith) (λ k. (c.slice_known-2-1.given k).fits) c.write.auto.out c.write.ensures)
    (two_bytes _ 4 5 6 _ _ refl refl (omega arith) refl))
    (number 8 refl (simp length-set (omega arith)) (λ k. (c.slice_known-3-1.given k).fits) c.write-2.auto.out c.write-2.ensures))
    (number 10 refl (omega arith) (λ k. (c.slice_known-4-1.given k).fits) c.write-3.auto.out c.write-3.ensures)
