-- `lowest::wrong_entry` meets its contract: no entry before the counter is wrong.
-- Assumes nothing.
use Rattle.std.proofs.Common.{◌≡◌, ℕ, ◌<◌, false}
use Rattle.grounds.specs.Rows.{wrong_entry_of}
use Rattle.lowest.proofs.wrong_entry.Given as goal

abbrev pub invariant-loop-e : goal.invariant-loop-e
invariant-loop-e l = (k : ℕ) → k < l.e → wrong_entry_of l.sheet k ≡ false
