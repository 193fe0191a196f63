-- `recited::has_steps` meets its contract: step by step (proofs/Counting.antt).
-- Assumes nothing.
use Prim.Native.Nat.{◌-◌}
use Rattle.recited.proofs.Counting.{Passed}
use Rattle.recited.proofs.has_steps.Given as goal

abbrev pub invariant-loop : goal.invariant-loop
invariant-loop l = Passed l.record l.first l.count l.ties l.at (l.count - l.counter) l.found
