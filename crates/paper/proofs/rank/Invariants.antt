-- `paper::rank` meets its contract: after t turns, the first t ranks stand.
-- Assumes nothing.
use Prim.Native.Nat.{ℕ, ◌≤◌}
use mathlib.Core.Path.{◌≡◌}
use lib.ListN.{get_or}
use Rattle.order.specs.First.{marked}
use Rattle.reasons.specs.Pruned.{rank}
use Rattle.paper.specs.Written.{Ranked}
use Rattle.paper.proofs.rank.Given as goal

abbrev pub invariant-loop-t : goal.invariant-loop-t
invariant-loop-t l =
    (l.k ≤ l.t) × (l.k ≡ rank (marked l.need) l.t) × Ranked (marked l.need) l.ranks l.t
    × ((u : ℕ) → l.count ≤ u → get_or l.ranks u 0 ≡ get_or l.initial.ranks u 0)
