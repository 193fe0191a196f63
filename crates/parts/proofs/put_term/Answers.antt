-- `parts::put_term` meets its contract: the kinds of term that have no bounds.
-- Assumes nothing.
use Prim.Native.Nat.{ℕ}
use mathlib.Core.Path.{◌≡◌, refl}
use mathlib.Core.Bool.{true}
use mathlib.Core.List.{List}
use Rattle.closure.specs.Table.{Table}
use Rattle.cells.specs.Cells.{cell}
use Rattle.sheet.specs.declared.Biased.{Biased}
use Rattle.sheet.specs.declared.TermNumber.{TermNumber}
use Rattle.sheet.specs.declared.Term.{Term as Code-Term}
use Rattle.sheet.specs.declared.Term.TheVariants.{Unknown, Number, Shift, Apply, Apply2}
use Rattle.sheet.specs.Says.{term_says}
use Rattle.settled.specs.Settled.{TermHeld}
use Rattle.steps.specs.Step.{Stepped}
use Rattle.steps.specs.True.{TermTrue}
use Rattle.steps.proofs.Steps.{stayed}
use Rattle.parts.proofs.put_term.Goals as goal

-- the last arm: the kinds of term that have no bounds
free : (t : Code-Term) {n z i : ℕ} {d : List ℕ} → ((c : Biased) → t ≡ Number c → ⊥) → ((a : TermNumber) (c : Biased) → t ≡ Shift a c → ⊥) → Table n (cell d)
    → Stepped n (TermTrue z i (term_says t)) (λ k. TermHeld k z i (term_says t)) d d true
free Unknown h k T = stayed T tt
free (Number c) h k T = absurd (h c refl)
free (Shift a c) h k T = absurd (k a c refl)
free (Apply s a) h k T = stayed T tt
free (Apply2 s a b) h k T = stayed T tt

pub returns-in_default : goal.returns-in_default
returns-in_default c = free c.args.t c.in_default.not-Number c.in_default.not-Shift c.requires.table
