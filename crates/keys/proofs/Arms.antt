-- The last arm of the match on a term: the kinds that have no input.
-- Assumes nothing.
use Prim.Native.Nat.{ℕ}
use mathlib.Core.Path.{◌≡◌, refl}
use mathlib.Core.List.{List}
use Rattle.sheet.specs.declared.Symbol.{Symbol}
use Rattle.sheet.specs.declared.TermNumber.{TermNumber}
use Rattle.sheet.specs.declared.Term.{Term as Code-Term}
use Rattle.sheet.specs.declared.Term.TheVariants.{Unknown, Number, Shift, Apply, Apply2}
use Rattle.sheet.specs.Says.{term_says}
use Rattle.keys.specs.Keys.{first_key, second_key, SymbolFits}

pub no-input : (v : List ℕ) (t : ℕ) (x : Code-Term) → ((f : Symbol) (a : TermNumber) → x ≡ Apply f a → ⊥) → ((f : Symbol) (a b : TermNumber) → x ≡ Apply2 f a b → ⊥)
    → (0 ≡ first_key v t (term_says x)) × (0 ≡ second_key v t (term_says x)) × SymbolFits (term_says x)
no-input v t Unknown h k = (refl, refl, tt)
no-input v t (Number c) h k = (refl, refl, tt)
no-input v t (Shift a c) h k = (refl, refl, tt)
no-input v t (Apply f a) h k = absurd (h f a refl)
no-input v t (Apply2 f a b) h k = absurd (k f a b refl)
