-- `drafting::sheet` meets its contract: the head, the terms' records and those of the entries are laid behind each other.
-- Assumes nothing.
use mathlib.Core.Path.{refl}
use native.Mathlib.Omega.{arith}
use Rattle.drafting.proofs.Laid.{wrote}
use Rattle.drafting.proofs.Draft.{drafted}
use Rattle.drafting.proofs.sheet.Goals as goal

pub returns : goal.returns
returns c =
    let args = c.args in
    let pre = c.requires in
    let write = c.write in
    record {
      size_is = refl;
      room-is = drafted args.m.now args.l pre.0 pre.1 pre.2 args.room.now pre.3
          (wrote (λ k. (c.slice_known-2-1.given k).fits) write.auto.out (omega arith) write.ensures.0 write.ensures.1)
          c.records.ensures c.records-2.ensures;
    }
