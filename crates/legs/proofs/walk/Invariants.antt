-- `legs::walk` meets its contract: what is said of the rest of the row, from where the walk has come to, is said of all of it (proofs/Walks.antt).
-- Assumes nothing.
use Prim.Native.Nat.{◌<◌}
use lib.ListN.{take}
use Rattle.legs.specs.Legs.{range, start_at}
use Rattle.legs.proofs.Walks.{Ahead}
use Rattle.legs.proofs.walk.Given as goal

abbrev pub invariant-loop-name : goal.invariant-loop-name
invariant-loop-name l = (l.stand.gap < range) × Ahead l.legs (take l.count l.bounds) (start_at l.start) l.stand l.name-index
