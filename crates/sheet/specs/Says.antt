-- What the code's enums and structs say, in the abstract sheet's terms.
-- Assumes nothing.
use Rattle.std.specs.Prelude.{ℤ}
use Rattle.std.proofs.Math.IntN.{sub_ℕ}
use Rattle.sheet.specs.declared.Biased.{Biased}
use Rattle.sheet.specs.declared.Term.{Term as Code-Term}
use Rattle.sheet.specs.declared.Term.TheVariants.{Unknown, Number, Shift, Apply, Apply2}
use Rattle.sheet.specs.declared.Relation.{Relation as Code-Relation}
use Rattle.sheet.specs.declared.Relation.TheVariants.{Equal, Unequal, AtMost, Less}
use Rattle.sheet.specs.declared.Entry.{Entry as Code-Entry}
use Rattle.sheet.specs.Sheet.{Term, unknown, number, shift, apply, apply2, Relation, equal, unequal, at_most, less, Entry}

-- c is held as c + 32,768
abbrev pub biased_says : Biased → ℤ
biased_says c = sub_ℕ c.0 32768

abbrev pub term_says : Code-Term → Term
term_says Unknown = unknown
term_says (Number c) = number (biased_says c)
term_says (Shift a c) = shift a.0 (biased_says c)
term_says (Apply symbol a) = apply symbol.0 a.0
term_says (Apply2 symbol a b) = apply2 symbol.0 a.0 b.0

abbrev pub relation_says : Code-Relation → Relation
relation_says Equal = equal
relation_says Unequal = unequal
relation_says AtMost = at_most
relation_says Less = less

abbrev pub entry_says : Code-Entry → Entry
entry_says e = record { relation = relation_says e.relation; a = e.a.0; b = e.b.0; c = biased_says e.c }
