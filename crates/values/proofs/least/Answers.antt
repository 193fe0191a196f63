-- `values::least` meets its contract: after s turns, the whole number of the tightest gap is the least of the first s.
-- Assumes nothing.
use Prim.Native.Nat.{ℕ, min}
use mathlib.Core.Path.{◌≡◌, ◌∙◌, ap}
use native.Mathlib.Omega.{arith}
use Rattle.levels.specs.Level.{whole_at}
use Rattle.levels.proofs.Rows.{term-there}
use Rattle.values.proofs.Loops.{least-none, least_more}
use Rattle.values.proofs.least.Goals as goal

halves : (x y z : ℕ) → z ≡ min x y → whole_at z ≡ min (whole_at x) (whole_at y)
halves x y z e = omega arith

pub loop-s-init : goal.loop-s-init
loop-s-init c = (omega arith, least-none _)

pub loop-s-preserved : goal.loop-s-preserved
loop-s-preserved c =
    let loop = c.loop-s in
    (omega arith, least_more _ _ _ _ _ loop.invariant.1 (ap whole_at c.gap_at.ensures) (halves loop.m.0 c.gap_at.result.0 _ c.tighter-m.ensures.code))

pub returns : goal.returns
returns c =
    let loop = c.loop-s in
    let is = term-there 0 loop.m.0 (omega arith) in
    let end : loop.s ≡ c.args.n = omega arith in
    (c.term.ensures.0 ∙ is ∙ rw end at loop.invariant.1, omega arith)
