-- `reason::search` meets its contract: the verdict on all entries, then the room, then the first list and its reason.
-- Assumes nothing.
use mathlib.Core.Path.{ap}
use native.Mathlib.Omega.{arith}
use Rattle.verdict.specs.Judged.{number_of}
use Rattle.blame.proofs.Blame.{all-marked, all_hold, all-clash}
use Rattle.reason.proofs.Join.{told-holds, told-short, told-why}
use Rattle.reason.proofs.search.Goals as goal

pub returns-then-room-lt-ROOM : goal.returns-then-room-lt-ROOM
returns-then-room-lt-ROOM c =
    told-short _ _ (all-clash _ (c.on.ensures.judged.clashes (ap number_of c.in-Clashes.is))) (omega arith)

pub leave_out-requires : goal.leave_out-requires
leave_out-requires c =
    let wf = c.formed.ensures in record {
      sheet_in_bounds = (wf.entries, omega arith);
      clashes = (c.on.ensures.judged.clashes (ap number_of c.in-Clashes.is), λ x l. all-marked wf x l);
    }

pub argue-requires : goal.argue-requires
argue-requires c = record {
  d_len = omega arith;
  sheet_in_bounds = (omega (arith, c.formed.ensures.entries), omega arith);
  clashes = c.leave_out.ensures.first.has;
}

pub overflow_cast-result : goal.overflow_cast-result
overflow_cast-result c = omega (arith, c.argue.ensures.argued.short)

pub returns-in-Holds : goal.returns-in-Holds
returns-in-Holds c =
    told-holds _ _ (all_hold c.formed.ensures (c.on.ensures.judged.holds (ap number_of c.in-Holds.is)))

pub returns-else-room-lt-ROOM : goal.returns-else-room-lt-ROOM
returns-else-room-lt-ROOM c =
    told-why _ _ _ _ _ (omega arith) c.formed.ensures (omega arith) c.leave_out.ensures.first c.argue.ensures.argued
