-- `lowest::wrong_term` meets its contract: no term before the counter is wrong.
-- Assumes nothing.
use Rattle.std.proofs.Common.{◌≡◌, ℕ, ◌<◌, false}
use Rattle.grounds.specs.Rows.{wrong_term_of}
use Rattle.lowest.proofs.wrong_term.Given as goal

abbrev pub invariant-loop-i : goal.invariant-loop-i
invariant-loop-i l = (k : ℕ) → k < l.i → wrong_term_of l.sheet k ≡ false
