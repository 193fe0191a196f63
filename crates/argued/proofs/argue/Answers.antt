-- `argued::argue` meets its contract: ledger, table and ties are a draft of the list, which is written; its steps follow, and close it.
-- Assumes nothing.
use Rattle.std.proofs.Common.{◌∙◌, arith}
use Rattle.cells.proofs.Keeps.{kept_on}
use Rattle.drafted.proofs.Ready.{drafted-of}
use Rattle.drafted.proofs.Complete.{some-broken}
use Rattle.argued.proofs.Made.{all-grew, ready}
use Rattle.argued.proofs.Record.{argued}
use Rattle.argued.proofs.argue.Goals as goal

pub by_round-requires : goal.by_round-requires
by_round-requires c =
    let W = c.formed.ensures in
    let G = c.grow-g.ensures.grew in
    let D = drafted-of c.list-m.ensures c.grow-g.ensures.front G.ties G.sound c.lay-count.ensures in (
      ready W D G (rw c.count_entries.ensures.count.0 at c.list-k.ensures) c.requires.sheet_in_bounds.1 (omega (arith, c.lay-count.auto.names, c.list-m.auto.names))
          (omega (arith, c.lay-count.auto.ties)) (omega (arith, c.lay-count.auto.labels)) (c.grow-g.auto.d ∙ c.requires.d_len),
      c.if-put-listed.true,
    )

pub returns-then-put-listed : goal.returns-then-put-listed
returns-then-put-listed c =
    let G = c.grow-g.ensures.grew in
    let D = drafted-of c.list-m.ensures c.grow-g.ensures.front G.ties G.sound c.lay-count.ensures in record {
      argued = argued (rw c.count_entries.ensures.count.0 at c.list-k.ensures) (c.by_round.ensures.closed _ D);
      kept = kept_on c.grow-g.ensures.kept c.by_round.ensures.kept;
    }

pub broken-e-requires : goal.broken-e-requires
broken-e-requires c =
    let pre = c.requires in
    let W = c.formed.ensures in
    let G = c.grow-g.ensures.grew in
    let D = drafted-of c.list-m.ensures c.grow-g.ensures.front G.ties G.sound c.lay-count.ensures in record {
      sheet_in_bounds = (pre.sheet_in_bounds.0, c.grow-g.auto.d ∙ c.requires.d_len);
      closed_table = G.exact.table.closed;
      fact = some-broken W D.ledger (all-grew G c.if-put-listed.false) pre.clashes;
    }

pub by_entry-requires : goal.by_entry-requires
by_entry-requires c =
    let W = c.formed.ensures in
    let G = c.grow-g.ensures.grew in
    let D = drafted-of c.list-m.ensures c.grow-g.ensures.front G.ties G.sound c.lay-count.ensures in record {
      ready =
          ready W D (all-grew G c.if-put-listed.false) (rw c.count_entries.ensures.count.0 at c.list-k.ensures) c.requires.sheet_in_bounds.1
          (omega (arith, c.lay-count.auto.names, c.list-m.auto.names)) (omega (arith, c.lay-count.auto.ties)) (omega (arith, c.lay-count.auto.labels))
          (c.grow-g.auto.d ∙ c.requires.d_len);
      e_bound = (c.broken-e.ensures.0, c.broken-e.ensures.1.1);
    }

pub returns : goal.returns
returns c =
    let G = c.grow-g.ensures.grew in
    let D = drafted-of c.list-m.ensures c.grow-g.ensures.front G.ties G.sound c.lay-count.ensures in record {
      argued = argued (rw c.count_entries.ensures.count.0 at c.list-k.ensures) (c.by_entry.ensures.closed _ c.broken-e.ensures.1.0 D);
      kept = kept_on c.grow-g.ensures.kept c.by_entry.ensures.kept;
    }
