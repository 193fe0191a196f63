-- `basis::between_terms` meets its contract: the entry is the sheet's.
-- Assumes nothing.
use mathlib.Core.Path.{ap}
use Rattle.sheet.specs.Sheet.{Entry}
use Rattle.basis.proofs.between_terms.Goals as goal

pub returns : goal.returns
returns c =
    let e = c.entry_at-entry.ensures in
    rw (ap (λ (x : Entry). x.a) e, ap (λ (x : Entry). x.b) e) at c.between.ensures
