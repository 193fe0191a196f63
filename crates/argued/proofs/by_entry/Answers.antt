-- `argued::by_entry` meets its contract: the path between the entry's terms is marked, or walks between them are found; what that rests on
-- is gathered, and all of it is written.
-- Assumes nothing.
use Rattle.std.proofs.Common.{◌≡◌, ◌+◌, ◌<◌, ◌≤◌, length, sym, ◌∙◌, arith, length-set, eqb-true}
use borrow.Author.Tests.{eqb-false}
use Rattle.cells.specs.Cells.{stride}
use Rattle.cells.proofs.Keeps.{kept_on}
use Rattle.settled.specs.Settled.{points}
use Rattle.sketch.specs.Sketch.{walks_length}
use Rattle.drafted.proofs.Named.{few-ties, ledger-name}
use Rattle.drafted.proofs.Ready.{none-marked}
use Rattle.argued.proofs.Asked.{few, few-more, memory, names-fit, points-few, writable, left<, right<, labelled, both-asks}
use Rattle.argued.proofs.Closing.{path-marked, path-closes, tie-marked, tie-readable, tie-closes}
use Rattle.argued.proofs.by_entry.Goals as goal

pub together-requires : goal.together-requires
together-requires c =
    let Y = c.requires.ready in
    let E = c.entry_at-entry in
    let a = left< Y E.result E.ensures c.requires.e_bound.0 in
    let b = right< Y E.result E.ensures c.requires.e_bound.0 in
    (Y.all-labels, omega (arith, few Y), omega (arith, a, Y.formed.terms), omega (arith, b, Y.formed.terms))

pub mark-requires : goal.mark-requires
mark-requires c =
    let Y = c.requires.ready in
    let E = c.entry_at-entry in
    let x< = c.requires.e_bound.0 in
    let e = c.count_terms-n.ensures.count.0 in record {
      labels_len = (
        Y.all-labels,
        points-few Y e,
        omega (arith, few-ties Y.formed Y.drafted, e),
        omega (arith, few Y, Y.all-ties),
        omega (arith, few Y),
        omega (arith, left< Y E.result E.ensures x<, e),
        omega (arith, right< Y E.result E.ensures x<, e),
      );
      labelled = (labelled Y E.result E.ensures x< e, eqb-true _ _ (sym c.together.ensures ∙ c.if-together.true));
    }

pub bounds-need-count : goal.bounds-need-count
bounds-need-count c = omega (arith, few c.requires.ready)

pub gather-requires-clause-ties_len : goal.gather-requires-clause-ties_len
gather-requires-clause-ties_len c =
    let Y = c.requires.ready in
    (Y.all-ties, Y.all-labels, few-ties Y.formed Y.drafted, simp length-set (omega (arith, few Y, c.mark.auto.need)), omega arith)

pub write_path-requires : goal.write_path-requires
write_path-requires c =
    let Y = c.requires.ready in
    let E = c.entry_at-entry in
    let (x<, B) = c.requires.e_bound in
    let G = c.gather.ensures.gathered in (
      writable Y G (omega (arith, c.gather.auto.walks)) (omega (arith, few Y, simp length-set at c.gather.auto.need, c.mark.auto.need)),
      path-marked Y E.result E.ensures x< B c.mark.ensures G (omega (arith, few Y, c.mark.auto.need)),
    )

pub returns-then-together : goal.returns-then-together
returns-then-together c =
    let Y = c.requires.ready in
    let E = c.entry_at-entry in
    let (x<, B) = c.requires.e_bound in record {
      closed = path-closes Y E.result E.ensures x< B c.mark.ensures c.gather.ensures.gathered (omega (arith, few Y, c.mark.auto.need)) (none-marked stride)
          c.write_path.ensures;
      kept = c.gather.ensures.kept;
    }

pub both-requires : goal.both-requires
both-requires c =
    let Y = c.requires.ready in
    let E = c.entry_at-entry in
    let (x<, B) = c.requires.e_bound in
    let e = c.count_terms-n.ensures.count.0 in record {
      sound = both-asks Y E.result E.ensures x< e B;
      n_le_stride = (
        points-few Y e,
        omega (arith, left< Y E.result E.ensures x<, e),
        omega (arith, right< Y E.result E.ensures x<, e),
        Y.all-cells,
        omega arith,
        Y.all-names,
      );
      by_index = λ b h g. names-fit Y stride b (omega arith) h g;
    }

pub bounds-need-count-3 : goal.bounds-need-count-3
bounds-need-count-3 c =
    let E = c.entry_at-entry in
    let more : c.args.count < 128 = few-more c.requires.ready E.result E.ensures c.requires.e_bound.0 (eqb-false _ _ (sym c.together.ensures ∙ c.if-together.false)) in
    omega (arith, c.both.auto.need)

pub gather-requires-2-clause-ties_len : goal.gather-requires-2-clause-ties_len
gather-requires-2-clause-ties_len c =
    memory c.requires.ready _ _ (simp length-set (omega (arith, c.both.auto.need))) (omega (arith, c.both.auto.walks))

pub gather-requires-2-clause-by_index : goal.gather-requires-2-clause-by_index
gather-requires-2-clause-by_index c =
    let Y = c.requires.ready in
    ledger-name Y.formed Y.drafted

pub write_tie-requires : goal.write_tie-requires
write_tie-requires c =
    let Y = c.requires.ready in
    let E = c.entry_at-entry in
    let (x<, B) = c.requires.e_bound in
    let e = c.count_terms-n.ensures.count.0 in
    let F = c.both.ensures.found in
    let G = c.gather-2.ensures.gathered in
    let same = c.gather-2.auto.walks in
    let full : walks_length ≤ length c.gather-2.new.walks = omega (arith, same, c.both.auto.walks) in
    let apart = eqb-false _ _ (sym c.together.ensures ∙ c.if-together.false) in
    let more : c.args.count < 128 = few-more Y E.result E.ensures x< apart in
    let next< : c.args.count + 1 < length c.both.new.need = omega (arith, more, c.both.auto.need) in
    let (h, h') = tie-marked Y E.result E.ensures x< B e F G next< same in record {
      writable = (writable Y G full (omega (arith, few Y, simp length-set at c.gather-2.auto.need, c.both.auto.need)), more, h, h');
      readable = tie-readable Y E.result E.ensures x< B e F G next< same full;
    }

pub returns : goal.returns
returns c =
    let Y = c.requires.ready in
    let E = c.entry_at-entry in
    let (x<, B) = c.requires.e_bound in
    let e = c.count_terms-n.ensures.count.0 in
    let n : c.count_terms-n.result + 1 ≡ points c.args.sheet.now = omega arith in
    let apart = eqb-false _ _ (sym c.together.ensures ∙ c.if-together.false) in
    let more : c.args.count < 128 = few-more Y E.result E.ensures x< apart in
    let next< : c.args.count + 1 < length c.both.new.need = omega (arith, more, c.both.auto.need) in record {
      closed = tie-closes Y E.result E.ensures x< B e c.both.ensures.found c.gather-2.ensures.gathered next< c.gather-2.auto.walks
          _ (omega arith) (omega (arith, E.type_inv)) (omega (arith, c.from-c.ensures, E.type_inv)) apart (none-marked stride) c.write_tie.ensures;
      kept = kept_on (rw n at c.both.ensures.kept) c.gather-2.ensures.kept;
    }
