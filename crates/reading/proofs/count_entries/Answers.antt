-- `reading::count_entries` meets its contract: a decoded sheet has as many entries as it states.
-- Assumes nothing.
use mathlib.Core.Path.{sym}
use native.Mathlib.Omega.{arith}
use Rattle.sheet.proofs.Decode.{entries-stated}
use Rattle.reading.proofs.count_entries.Goals as goal

pub overflow_cast-result : goal.overflow_cast-result
overflow_cast-result c = omega (arith, c.shared_slice_known-1.given 4)

pub returns : goal.returns
returns c = (sym (entries-stated _), omega (arith, c.shared_slice_known-1.given 4))
