-- `listing::clashes` meets its contract: the list, and then its head.
-- Assumes nothing.
use Rattle.std.proofs.Common.{arith}
use Rattle.listing.proofs.Named.{named}
use Rattle.listing.proofs.clashes.Goals as goal

pub returns : goal.returns
returns c = named _ _ _ _ _ _ (omega arith) c.list-k.ensures.listed c.list-k.ensures.kept c.head.ensures (λ k. (c.type_inv.room k).fits)
