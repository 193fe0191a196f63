-- The last arm of the match on a term: the kinds that have no input.
-- Assumes nothing.
use Prim.Native.Nat.{ℕ, ◌*◌, ◌<◌}
use mathlib.Core.Path.{◌≡◌, refl}
use native.Mathlib.Omega.{arith}
use Rattle.sheet.specs.declared.Symbol.{Symbol}
use Rattle.sheet.specs.declared.TermNumber.{TermNumber}
use Rattle.sheet.specs.declared.Term.{Term as Code-Term}
use Rattle.sheet.specs.declared.Term.TheVariants.{Unknown, Number, Shift, Apply, Apply2}
use Rattle.sheet.specs.Says.{term_says}
use Rattle.roots.specs.Keyed.{Keyed, for-unknown, for-number, for-shift}

pub no-input : (d : ℕ → ℕ → ℕ) (t : Code-Term) → ((f : Symbol) (a : TermNumber) → t ≡ Apply f a → ⊥) → ((f : Symbol) (a b : TermNumber) → t ≡ Apply2 f a b → ⊥)
    → Keyed d (term_says t) 0 × (0 < 513 * 65536)
no-input d Unknown h k = (for-unknown, omega arith)
no-input d (Number c) h k = (for-number, omega arith)
no-input d (Shift a c) h k = (for-shift, omega arith)
no-input d (Apply f a) h k = absurd (h f a refl)
no-input d (Apply2 f a b) h k = absurd (k f a b refl)
