-- `steps::put_tie` meets its contract: its two bounds are the tie (proofs/Parts.antt).
-- Assumes nothing.
use native.Mathlib.Omega.{arith}
use Rattle.steps.proofs.Parts.{tie-refused, tie-put}
use Rattle.steps.proofs.put_tie.Goals as goal

pub insert-requires : goal.insert-requires
insert-requires c =
    let pre = c.requires in record {
      d_len = pre.d_len;
      g_lt_none = (c.to.ensures.there, c.to.ensures.near);
      table = pre.table;
    }

pub insert-requires-then-insert : goal.insert-requires-then-insert
insert-requires-then-insert c = record {
  d_len = omega arith;
  g_lt_none = (c.back.ensures.there, c.back.ensures.near);
  table = (c.insert.ensures.put c.if-insert.true).table;
}

pub returns-then-insert : goal.returns-then-insert
returns-then-insert c =
    let pre = c.requires in
    tie-put _ pre.d_len.2 pre.d_len.3 pre.table c.to.ensures c.insert.ensures c.if-insert.true
    c.back.ensures c.insert-then-insert.ensures

pub returns-else-insert : goal.returns-else-insert
returns-else-insert c =
    let pre = c.requires in
    tie-refused _ pre.d_len.2 pre.d_len.3 pre.table c.to.ensures c.insert.ensures c.if-insert.false
