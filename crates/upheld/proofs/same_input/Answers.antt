-- `upheld::same_input` meets its contract, kind by kind (proofs/Inputs.antt).
-- Assumes nothing.
use mathlib.Core.Path.{sym, ◌∙◌, subst}
use borrow.Author.Tests.{eqb-true, eqb-false}
use Rattle.probes.specs.Probes.{TiedAtSays}
use Rattle.upheld.proofs.Inputs.{one_told, one_symbol, two-told, two-first, two-symbol, not-one, not-two, no-application}
use Rattle.upheld.proofs.same_input.Goals as goal
use Rattle.upheld.proofs.same_input.Goals.{then-eq-2, else-eq-2}

pub returns-then-eq : goal.returns-then-eq
returns-then-eq c =
    rw (c.in-Apply-Apply.is-0, c.in-Apply-Apply.is-1) (one_told (eqb-true _ _ (sym c.if-eq.ensures)) c.tied_at.ensures)

pub returns-else-eq : goal.returns-else-eq
returns-else-eq c =
    rw (c.if-eq.false, c.in-Apply-Apply.is-0, c.in-Apply-Apply.is-1) (one_symbol (eqb-false _ _ (sym c.if-eq.ensures)))

-- the arms of the first test of two applications to two, where they have met
pub returns-then-tied_at : goal.returns-then-tied_at
returns-then-tied_at c =
    rw (c.in-Apply2-Apply2.is-0, c.in-Apply2-Apply2.is-1)
    (elim c.if-eq-2.branch [
      | then-eq-2 w ↦ two-told (eqb-true _ _ (sym w.if-eq-2.ensures)) (subst (TiedAtSays _ _ _ _) (sym w.value-is ∙ c.if-tied_at.true) w.tied_at-then-eq-2.ensures) c.tied_at-then-tied_at.ensures
      | else-eq-2 w ↦ cc
    ])

pub returns-else-tied_at : goal.returns-else-tied_at
returns-else-tied_at c =
    rw (c.if-tied_at.false, c.in-Apply2-Apply2.is-0, c.in-Apply2-Apply2.is-1)
    (elim c.if-eq-2.branch [
      | then-eq-2 w ↦ two-first (subst (TiedAtSays _ _ _ _) (sym w.value-is ∙ c.if-tied_at.false) w.tied_at-then-eq-2.ensures)
      | else-eq-2 w ↦ two-symbol (eqb-false _ _ (sym w.if-eq-2.ensures))
    ])

pub returns-in_default : goal.returns-in_default
returns-in_default c = rw c.in_default.is-0 (not-one _ _ c.args.g c.in_default.not-Apply-1)

pub returns-in_default-2 : goal.returns-in_default-2
returns-in_default-2 c = rw c.in_default.is-0 (not-two _ _ _ c.args.g c.in_default.not-Apply2-1)

pub returns-in_default-3 : goal.returns-in_default-3
returns-in_default-3 c = no-application c.args.f _ c.in_default.not-Apply-0 c.in_default.not-Apply2-0
