-- `values::write` meets its contract: the record of the levels of all points.
-- Assumes nothing.
use mathlib.Core.Path.{◌≡◌}
use native.Mathlib.Omega.{arith}
use Rattle.values.proofs.Fill.{written}
use Rattle.values.proofs.write.Goals as goal

pub returns : goal.returns
returns c =
    let e : c.count_terms-terms.result ≡ _ = c.count_terms-terms.ensures.count.0 in record {
      length = omega arith;
      written = written _ _ _ c.count_terms-terms.ensures.formed c.requires.closed (rw e at c.levels.ensures) (rw e at c.holds.ensures.written);
    }
