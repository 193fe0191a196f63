-- A list within the answer's limits lists its own entries, and is no longer than there are entries.
-- Assumes nothing.
use Prim.Native.Nat.{ℕ, ◌≤◌}
use mathlib.Core.List.{List}
use lib.ListN.{length}
use Rattle.order.specs.First.{set_of, Listed}
use Rattle.order.proofs.Lists.{lists-itself, listed-short}
use Rattle.answer.specs.Record.{ListWithin}

module _ {L : ℕ} {es : List ℕ} (w : ListWithin L es) where
  pub within-listed : Listed L (set_of es) es (length es)
  within-listed = lists-itself L es w.entry w.rising

  pub within-short : length es ≤ L
  within-short = listed-short L (set_of es) es _ within-listed
