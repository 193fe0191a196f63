-- `ledger::list_term` meets its contract, kind by kind.
-- Assumes nothing.
use Rattle.std.proofs.Common.{◌≡◌, ℕ, [], refl}
use Rattle.sheet.specs.declared.Biased.{Biased}
use Rattle.sheet.specs.declared.TermNumber.{TermNumber}
use Rattle.sheet.specs.declared.Term.{Term as Code-Term}
use Rattle.sheet.specs.declared.Term.TheVariants.{Unknown, Number, Shift, Apply, Apply2}
use Rattle.sheet.specs.Says.{term_says}
use Rattle.ledger.specs.Put.{of_term}
use Rattle.ledger.proofs.Put.{nothing_put}
use Rattle.ledger.proofs.list_term.Goals as goal

-- the last arm: the kinds of term that have no bounds
free : (t : Code-Term) (z i : ℕ) → ((c : Biased) → t ≡ Number c → ⊥) → ((a : TermNumber) (c : Biased) → t ≡ Shift a c → ⊥) → of_term z i (term_says t) ≡ []
free Unknown z i h k = refl
free (Number c) z i h k = absurd (h c refl)
free (Shift a c) z i h k = absurd (k a c refl)
free (Apply s a) z i h k = refl
free (Apply2 s a b) z i h k = refl

pub returns-in_default : goal.returns-in_default
returns-in_default c = rw (free c.args.t _ _ c.in_default.not-Number c.in_default.not-Shift) nothing_put
