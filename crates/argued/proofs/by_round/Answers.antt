-- `argued::by_round` meets its contract: the walk that bound e closes is found, what it rests on is gathered, and all of it is written.
-- Assumes nothing.
use Rattle.std.proofs.Common.{◌≡◌, ◌+◌, ◌<◌, ◌≤◌, length, arith, length-set}
use Rattle.cells.specs.Cells.{stride}
use Rattle.cells.proofs.Keeps.{kept_on}
use Rattle.settled.specs.Settled.{points}
use Rattle.sketch.specs.Sketch.{walks_length}
use Rattle.drafted.proofs.Named.{name_below}
use Rattle.drafted.proofs.Ready.{none-marked}
use Rattle.argued.proofs.Asked.{nameable, few, memory, names-fit, points-few, round-asks, writable}
use Rattle.argued.proofs.Closing.{round-marked, round-readable, round-closes}
use Rattle.argued.proofs.by_round.Goals as goal

pub round-requires : goal.round-requires
round-requires c =
    let (Y, l) = c.requires in
    let e = c.count_terms-n.ensures.count.0 in record {
      sound = round-asks Y e l;
      n_le_stride = (points-few Y e, Y.all-cells, omega arith, omega (arith, Y.all-names));
      by_index = λ b h g. names-fit Y stride b (omega arith) (omega arith) g;
    }

pub bounds-need-count : goal.bounds-need-count
bounds-need-count c = omega (arith, few c.requires.0)

pub gather-requires-clause-ties_len : goal.gather-requires-clause-ties_len
gather-requires-clause-ties_len c =
    memory c.requires.0 _ _ (simp length-set (omega (arith, c.round.auto.need))) (omega (arith, c.round.auto.walks))

pub write_round-requires : goal.write_round-requires
write_round-requires c =
    let (Y, l) = c.requires in
    let e = c.count_terms-n.ensures.count.0 in
    let F = c.round.ensures.found in
    let G = c.gather.ensures.gathered in
    let same = c.gather.auto.walks in
    let count< : c.args.count < length c.round.new.need = omega (arith, few Y, c.round.auto.need) in
    let full : walks_length ≤ length c.gather.new.walks = omega (arith, same, c.round.auto.walks) in
    let (walk, short) = round-readable Y e F G l count< same full in record {
      writable = (writable Y G full (omega (arith, few Y, simp length-set at c.gather.auto.need, c.round.auto.need)), round-marked Y e F G l count< same);
      readable = (walk, short, omega (arith, Y.all-names), nameable (name_below Y.formed Y.drafted _ l));
    }

pub returns : goal.returns
returns c =
    let (Y, l) = c.requires in
    let e = c.count_terms-n.ensures.count.0 in
    let count< : c.args.count < length c.round.new.need = omega (arith, few Y, c.round.auto.need) in
    let n : c.count_terms-n.result + 1 ≡ points c.args.sheet.now = omega arith in record {
      closed = round-closes Y e c.round.ensures.found c.gather.ensures.gathered l count< c.gather.auto.walks (none-marked stride) c.write_round.ensures;
      kept = kept_on (rw n at c.round.ensures.kept) c.gather.ensures.kept;
    }
