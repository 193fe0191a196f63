-- What a reader answers is one only: two terms or entries of code that say the same are the same.
-- Assumes nothing.
use Prim.Native.Nat.{ℕ, ◌+◌, ◌-◌}
use mathlib.Core.Path.{◌≡◌, refl, sym, ap, ◌∙◌}
use lib.IntN.{ℤ}
use native.Mathlib.Omega.{arith}
use Rattle.whole.specs.Whole.{plus, minus}
use Rattle.whole.proofs.Parts.{sub_parts}
use Rattle.sheet.specs.declared.Biased.{Biased}
use Rattle.sheet.specs.declared.Term.{Term as Code-Term}
use Rattle.sheet.specs.declared.Term.TheVariants.{Unknown, Number, Shift, Apply, Apply2}
use Rattle.sheet.specs.declared.Relation.{Relation as Code-Relation}
use Rattle.sheet.specs.declared.Relation.TheVariants.{Equal, Unequal, AtMost, Less}
use Rattle.sheet.specs.declared.Entry.{Entry as Code-Entry}
use Rattle.sheet.specs.Sheet.{Term, unknown, number, shift, apply, apply2, Relation, equal, unequal, at_most, less, Entry}
use Rattle.sheet.specs.Says.{biased_says, term_says, relation_says, entry_says}

-- the way back, from which it follows
held : ℤ → Biased
held c = record { 0 = plus c + 32768 - minus c }

held_back : (c : Biased) → held (biased_says c) ≡ c
unfolding held
held_back c = ap (λ (n : ℕ). record { 0 = n }) (omega (arith, sub_parts c.0 32768))

term : Term → Code-Term
term unknown = Unknown
term (number c) = Number (held c)
term (shift a c) = Shift (record { 0 = a }) (held c)
term (apply symbol a) = Apply (record { 0 = symbol }) (record { 0 = a })
term (apply2 symbol a b) = Apply2 (record { 0 = symbol }) (record { 0 = a }) (record { 0 = b })

term-back : (t : Code-Term) → term (term_says t) ≡ t
unfolding term
term-back Unknown = refl
term-back (Number c) = ap Number (held_back c)
term-back (Shift a c) = ap (Shift a) (held_back c)
term-back (Apply symbol a) = refl
term-back (Apply2 symbol a b) = refl

relation : Relation → Code-Relation
relation equal = Equal
relation unequal = Unequal
relation at_most = AtMost
relation less = Less

relation-back : (r : Code-Relation) → relation (relation_says r) ≡ r
unfolding relation
relation-back Equal = refl
relation-back Unequal = refl
relation-back AtMost = refl
relation-back Less = refl

entry : Entry → Code-Entry
entry e = record { relation = relation e.relation; a = record { 0 = e.a }; b = record { 0 = e.b }; c = held e.c }

entry-back : (e : Code-Entry) → entry (entry_says e) ≡ e
unfolding entry
entry-back e = rw (relation-back e.relation, held_back e.c)

pub term_told : (t u : Code-Term) → term_says t ≡ term_says u → t ≡ u
term_told t u e = sym (term-back t) ∙ ap term e ∙ term-back u

pub entry-told : (d e : Code-Entry) → entry_says d ≡ entry_says e → d ≡ e
entry-told d e h = sym (entry-back d) ∙ ap entry h ∙ entry-back e
