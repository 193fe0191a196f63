-- The last arm of the match on a term: the kinds that have no rule of their own.
-- Assumes nothing.
use Prim.Native.Nat.{ℕ}
use mathlib.Core.Path.{◌≡◌, refl}
use mathlib.Core.Bool.{true}
use lib.IntN.{ℤ}
use Rattle.sheet.specs.declared.Biased.{Biased}
use Rattle.sheet.specs.declared.TermNumber.{TermNumber}
use Rattle.sheet.specs.declared.Term.{Term as Code-Term}
use Rattle.sheet.specs.declared.Term.TheVariants.{Unknown, Number, Shift, Apply, Apply2}
use Rattle.sheet.specs.Says.{term_says}
use Rattle.meaning.specs.Meaning.{Defined}
use Rattle.meaning.specs.Decides.{Decides}
use Rattle.meaning.proofs.Decides.{shown}

pub ruleless : (D : ℕ) (n : ℕ → ℤ) (own : ℤ) (x : Code-Term) → ((c : Biased) → x ≡ Number c → ⊥) → ((a : TermNumber) (c : Biased) → x ≡ Shift a c → ⊥)
    → Decides (Defined D n own (term_says x)) true
ruleless D n own Unknown h k = shown tt
ruleless D n own (Number c) h k = absurd (h c refl)
ruleless D n own (Shift a c) h k = absurd (k a c refl)
ruleless D n own (Apply f a) h k = shown tt
ruleless D n own (Apply2 f a b) h k = shown tt
