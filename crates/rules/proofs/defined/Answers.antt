-- `rules::defined` meets its contract, kind by kind.
-- Assumes nothing.
use Rattle.rules.proofs.Values.{value-equal, value-number}
use Rattle.rules.proofs.defined.Goals as goal

pub returns-in-Number : goal.returns-in-Number
returns-in-Number c = rw c.in-Number.is (value-number _ _ _ _ c.related.ensures)

pub returns-in-Shift : goal.returns-in-Shift
returns-in-Shift c = rw c.in-Shift.is (value-equal _ _ _ _ _ c.related-in-Shift.ensures)
