-- `legs::further` meets its contract: forwards or back, where the leg may be gone so and starts where the walk stands.
-- Assumes nothing.
use mathlib.Core.Path.{sym, ◌∙◌}
use native.Mathlib.Omega.{arith}
use Rattle.legs.specs.Legs.Further.{forth, back}
use Rattle.legs.proofs.further.Goals as goal

pub returns-then-to-stand : goal.returns-then-to-stand
returns-then-to-stand c =
    rw (c.if-back.true, c.gap.ensures, c.from.ensures)
    (back (omega arith) (sym c.to.ensures ∙ c.if-to-stand.true))

pub returns-then-from-stand : goal.returns-then-from-stand
returns-then-from-stand c =
    rw (c.if-back.false, c.gap-then-from-stand.ensures, c.to-then-from-stand.ensures, c.code-then-from-stand.ensures)
    (forth (omega arith) (sym c.from-then-code-ne0.ensures ∙ c.if-from-stand.true))
