-- `ties::tied_at` meets its contract: the gap in the table is compared with c's.
-- Assumes nothing.
use native.Mathlib.Omega.{arith}
use Rattle.ties.proofs.Tests.{tied-told}
use Rattle.ties.proofs.tied_at.Goals as goal

pub returns : goal.returns
returns c =
    let pre = c.requires in
    rw c.eq.ensures (tied-told _ _ _ pre.d_len.2 pre.a_lt_n (omega arith) c.tied.ensures c.whole.ensures.code)
