-- `inputs::shelf_of` meets its contract: each place is that of a shelf.
-- Assumes nothing.
use Prim.Native.Nat.{◌<◌}
use Rattle.notes.specs.Limits.{places}
use Rattle.inputs.proofs.shelf_of.Given as goal

abbrev pub invariant-loop : goal.invariant-loop
invariant-loop l = l.s < places
