-- The readers of a term and of an argument list meet their contracts: what is left of the brackets' depth falls at each opening bracket.
-- Assumes nothing.
use Prim.Native.Nat.{◌+◌}
use Rattle.terms.proofs.+arguments_term.Given as goal

abbrev pub decreases-arguments : goal.decreases-arguments
decreases-arguments l = l.depth + l.depth

abbrev pub decreases-term : goal.decreases-term
decreases-term l = l.depth + l.depth + 1
