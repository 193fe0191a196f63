-- `reading::count_terms` meets its contract: a decoded sheet has as many terms as it states.
-- Assumes nothing.
use mathlib.Core.Path.{sym}
use native.Mathlib.Omega.{arith}
use Rattle.sheet.proofs.Decode.{terms-stated}
use Rattle.reading.proofs.count_terms.Goals as goal

pub overflow_cast-result : goal.overflow_cast-result
overflow_cast-result c = omega (arith, c.shared_slice_known-1.given 3)

pub returns : goal.returns
returns c = (sym (terms-stated _), omega (arith, c.shared_slice_known-1.given 3))
