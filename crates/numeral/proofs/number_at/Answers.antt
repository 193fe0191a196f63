-- `numeral::number_at` meets its contract: it goes on from a number as the model does.
-- Assumes nothing.
use mathlib.Core.Path.{refl}
use native.Mathlib.Omega.{arith}
use Rattle.numeral.proofs.Going.{first-none, first-least, first-digit, behind-zero, out_of_range, one_more, ended}
use Rattle.numeral.proofs.number_at.Goals as goal

pub returns-in_default-clause-model : goal.returns-in_default-clause-model
returns-in_default-clause-model c = first-none _ _ _ _ c.in_default.ensures

pub returns-then-first-least-clause-model : goal.returns-then-first-least-clause-model
returns-then-first-least-clause-model c = let d = c.in-Some.ensures in first-least _ _ _ _ d.1 d.0 (omega arith)

pub loop-d-init : goal.loop-d-init
loop-d-init c = let d = c.in-Some.ensures in first-digit _ _ _ _ d.1 d.0 (omega arith) (omega arith)

pub returns-then-n-eq0-clause-model : goal.returns-then-n-eq0-clause-model
returns-then-n-eq0-clause-model c = let d = c.in-Some-digit_at.ensures in behind-zero _ _ _ _ c.loop-d.invariant d.1 d.0 (omega arith)

pub returns-then-limit-n-clause-model : goal.returns-then-limit-n-clause-model
returns-then-limit-n-clause-model c =
    let d = c.in-Some-digit_at.ensures in out_of_range _ _ _ _ c.loop-d.invariant d.1 d.0 (λ z. omega arith) refl (omega arith)

pub loop-d-preserved : goal.loop-d-preserved
loop-d-preserved c =
    let d = c.in-Some-digit_at.ensures in
    one_more _ _ _ _ c.loop-d.invariant d.1 d.0 (λ z. omega arith) refl (omega arith) (omega arith) (omega arith)

pub returns-clause-model : goal.returns-clause-model
returns-clause-model c = ended _ _ _ _ c.loop-d.invariant c.in_default-digit_at.ensures
