-- `table::insert` meets its contract: the three answers of proofs/Rows.antt.
-- Assumes nothing.
use Rattle.std.proofs.Common.{◌<◌, ◌≤◌, rules}
use Rattle.kind.specs.Code.{base}
use Rattle.cells.specs.Cells.{cell}
use Rattle.table.proofs.Rows.{asked, closing, inserted-held, inserted-not, inserted}
use Rattle.table.proofs.insert.Goals as goal

pub returns-then-le : goal.returns-then-le
returns-then-le c =
    let held : cell c.args.d.now c.args.a c.args.b ≤ c.args.g.0 = search rules in
    inserted-held _ _ _ _ _ (asked c.requires) held

pub sum-requires : goal.sum-requires
sum-requires c =
    rw c.gap_at-2.ensures (closing c.args.n c.args.d.now _ _ _ (asked c.requires))

pub returns-then-lt : goal.returns-then-lt
returns-then-lt c =
    let under : c.sum.result.0 < base = search rules in
    inserted-not _ _ _ _ _ (asked c.requires) (rw (c.sum.ensures.code, c.gap_at-2.ensures) at under)

pub returns : goal.returns
returns c =
    let not-under : base ≤ c.sum.result.0 = search rules in
    inserted _ _ _ _ _ (asked c.requires) _ (rw (c.sum.ensures.code, c.gap_at-2.ensures) at not-under) c.relax_rows.ensures
