-- `panel::search` meets its contract: the verdict on all entries, with the values or the list.
-- Assumes nothing.
use mathlib.Core.Path.{ap}
use mathlib.Core.Logic.{inl, inr}
use native.Mathlib.Omega.{arith}
use Rattle.verdict.specs.Judged.{number_of}
use Rattle.promise.proofs.Listing.{within-short}
use Rattle.blame.proofs.Blame.{all-clash}
use Rattle.panel.proofs.Join.{says_holds, says-clashes}
use Rattle.panel.proofs.search.Goals as goal

pub write-requires : goal.write-requires
write-requires c =
    let settled = c.on.ensures.judged.settled (ap number_of c.in-Holds.is) in record {
      d_len = (omega arith, omega (arith, c.formed.ensures.terms));
      closed = settled.closed;
    }

pub write-requires-in-Clashes : goal.write-requires-in-Clashes
write-requires-in-Clashes c =
    let clash = c.on.ensures.judged.clashes (ap number_of c.in-Clashes.is) in record {
      clashes = (all-clash _ clash, omega (arith, c.formed.ensures.entries), omega arith);
    }

pub overflow_cast-result-in-Clashes : goal.overflow_cast-result-in-Clashes
overflow_cast-result-in-Clashes c =
    omega (arith, within-short c.write-in-Clashes.ensures.blamed.within, c.write-in-Clashes.ensures.blamed.size_is, c.formed.ensures.entries)

pub returns-in-Holds : goal.returns-in-Holds
returns-in-Holds c =
    let settled = c.on.ensures.judged.settled (ap number_of c.in-Holds.is) in
    rw c.write.ensures.length (inl (says_holds _ _ _ (omega arith) c.formed.ensures _ settled c.write.ensures.written))

pub returns-in-Clashes : goal.returns-in-Clashes
returns-in-Clashes c =
    inr (says-clashes _ _ _ (omega arith) _ c.write-in-Clashes.ensures.blamed)
