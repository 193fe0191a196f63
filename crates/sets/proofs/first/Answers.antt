-- `sets::first` meets its contract: it is the first bit of the low word, or of the high one where that has none.
-- Assumes nothing.
use native.Mathlib.Omega.{arith}
use Rattle.sets.proofs.Firsts.{first-low, first-high, first-none, low-passed, both-passed}
use Rattle.sets.proofs.first.Goals as goal

pub returns-in-Some : goal.returns-in-Some
returns-in-Some c = first-low c.args.a c.args.from c.in-Some.ensures

pub returns-in_err-first_bit : goal.returns-in_err-first_bit
returns-in_err-first_bit c = rw c.from_residual.ensures (both-passed c.args.a c.args.from (omega arith) c.in_default.ensures c.in_err-first_bit.ensures)

pub returns-then-from-lt64 : goal.returns-then-from-lt64
returns-then-from-lt64 c = low-passed c.args.a c.args.from (omega arith) c.in_default.ensures c.in_ok-first_bit.ensures

pub returns-in_err-first_bit-2 : goal.returns-in_err-first_bit-2
returns-in_err-first_bit-2 c = rw c.from_residual-in_err-first_bit-2.ensures (first-none c.args.a c.args.from (omega arith) c.in_err-first_bit-2.ensures)

pub returns-in_ok-first_bit-2 : goal.returns-in_ok-first_bit-2
returns-in_ok-first_bit-2 c = first-high c.args.a c.args.from (omega arith) c.in_ok-first_bit-2.ensures
