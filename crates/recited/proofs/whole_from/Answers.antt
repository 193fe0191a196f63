-- `recited::whole_from` meets its contract: each field is read where the step has it.
-- Assumes nothing.
use native.Mathlib.Omega.{arith}
use Rattle.recited.specs.Recited.{size_at, record_from}
use Rattle.recited.proofs.whole_from.Goals as goal

pub bounds-requires : goal.bounds-requires
unfolding size_at
bounds-requires c = omega (arith, c.requires.bounds)

pub bounds-requires-2 : goal.bounds-requires-2
unfolding size_at
bounds-requires-2 c = omega (arith, c.requires.bounds)

pub returns : goal.returns
unfolding record_from
returns c =
    rw (c.read.ensures.0, c.bounds.ensures, c.bounds-2.ensures, c.bounds_size.ensures.0)
