-- `roots::root_of` meets its contract: a is tied to itself.
-- Assumes nothing.
use native.Mathlib.Omega.{arith}
use Rattle.ties.proofs.Zero.{tied-self}
use Rattle.roots.proofs.root_of.Goals as goal

pub returns : goal.returns
returns c = record { within = omega arith; tied = tied-self c.requires.2 c.requires.3; lowest = λ p l. c.loop-r.invariant p (omega arith) }
