-- `rows::wrong_shape` meets its contract: the code's test computes to the definition's.
-- Assumes nothing.
use mathlib.Core.Path.{refl}
use native.Mathlib.Omega.{arith}
use Rattle.grounds.specs.Rows.{wrong_shape}
use Rattle.rows.proofs.wrong_shape.Goals as goal

pub overflow_cast-terms : goal.overflow_cast-terms
overflow_cast-terms c = omega (arith, c.shared_slice_known-1.given 3)

pub overflow_cast-entries : goal.overflow_cast-entries
overflow_cast-entries c = omega (arith, c.shared_slice_known-2-1.given 4)

pub overflow_mul-result : goal.overflow_mul-result
overflow_mul-result c = omega (arith, c.shared_slice_known-3-1.given 3)

pub overflow_add-result : goal.overflow_add-result
overflow_add-result c = omega (arith, c.shared_slice_known-3-1.given 3)

pub overflow_mul-result-2 : goal.overflow_mul-result-2
overflow_mul-result-2 c = omega (arith, c.shared_slice_known-3-1.given 4)

pub overflow_add-result-2 : goal.overflow_add-result-2
overflow_add-result-2 c = omega (arith, c.shared_slice_known-3-1.given 3, c.shared_slice_known-3-1.given 4)

pub returns : goal.returns
unfolding wrong_shape
returns c = refl
