-- `basis::of_walk` meets its contract: the set has the ties of the names before the counter (proofs/Having.antt).
-- Assumes nothing.
use Rattle.basis.specs.Basis.{WalkAdds}
use Rattle.basis.proofs.of_walk.Given as goal

abbrev pub invariant-loop-name : goal.invariant-loop-name
invariant-loop-name l = WalkAdds l.name-index l.bounds l.ties
