-- `table::tied` meets its contract: the codes are added with more room, so that no sum wraps.
-- Assumes nothing.
use Rattle.std.proofs.Common.{◌∙◌}
use Rattle.table.proofs.tied.Goals as goal

pub returns-then-to-from : goal.returns-then-to-from
returns-then-to-from c =
    let to = c.gap_at-to.ensures in
    let tested = rw (c.from.ensures, c.from-2.ensures, to, c.gap_at-back.ensures) at c.if-to-from.true in
    to ∙ simp tested

pub returns-else-to-from : goal.returns-else-to-from
returns-else-to-from c =
    let to = c.gap_at-to.ensures in
    let tested = rw (c.from.ensures, c.from-2.ensures, to, c.gap_at-back.ensures) at c.if-to-from.false in
    simp tested
