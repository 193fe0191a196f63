-- `guess::take` meets its contract: after i turns, the first i levels are in the range.
-- Assumes nothing.
use Prim.Native.Nat.{ℕ, ◌^◌, ◌<◌}
use mathlib.Core.Path.{◌≡◌}
use lib.ListN.{length, get_or}
use Rattle.guess.proofs.take.Given as goal

abbrev pub invariant-loop-i : goal.invariant-loop-i
invariant-loop-i l = (length l.v ≡ length l.initial.v) × ((k : ℕ) → k < l.i → get_or l.v k 0 < 2 ^ 44)
