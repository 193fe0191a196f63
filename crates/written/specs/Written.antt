-- The bytes of a sheet, as document 01's tables have them. Unused fields are 0.
-- Assumes nothing.
use Rattle.std.specs.Prelude.{ℕ, List, [], ◌∷◌, ◌++◌, ℤ}
use Rattle.big.specs.Big.{bytes_of, complement_of}
use Rattle.sheet.specs.Limits.{sheet_length}
use Rattle.sheet.specs.Sheet.{Term, unknown, number, shift, apply, apply2, Relation, equal, unequal, at_most, less, Entry, Sheet, count_terms, count_entries}

-- c, two bytes, two's complement
abbrev pub whole_bytes : ℤ → List ℕ
whole_bytes c = bytes_of 2 (complement_of 2 c)

-- kind, symbol, a, b, c
abbrev pub term_bytes : Term → List ℕ
term_bytes unknown = 0 ∷ 0 ∷ 0 ∷ 0 ∷ 0 ∷ 0 ∷ []
term_bytes (number c) = 1 ∷ 0 ∷ 0 ∷ 0 ∷ whole_bytes c
term_bytes (shift a c) = 2 ∷ 0 ∷ a ∷ 0 ∷ whole_bytes c
term_bytes (apply symbol a) = 3 ∷ symbol ∷ a ∷ 0 ∷ 0 ∷ 0 ∷ []
term_bytes (apply2 symbol a b) = 4 ∷ symbol ∷ a ∷ b ∷ 0 ∷ 0 ∷ []

abbrev pub kind_of : Relation → ℕ
kind_of equal = 0
kind_of unequal = 1
kind_of at_most = 2
kind_of less = 3

-- kind, 0, a, b, c
abbrev pub entry_bytes : Entry → List ℕ
entry_bytes e = kind_of e.relation ∷ 0 ∷ e.a ∷ e.b ∷ whole_bytes e.c

-- one record behind the other
abbrev pub in_row : {A : Type 0} → (A → List ℕ) → List A → List ℕ
in_row bytes [] = []
in_row bytes (x ∷ xs) = bytes x ++ in_row bytes xs

-- length, version 1, T, L, 0
abbrev pub front_bytes : Sheet → List ℕ
front_bytes s = bytes_of 2 (sheet_length (count_terms s) (count_entries s)) ++ 1 ∷ count_terms s ∷ count_entries s ∷ 0 ∷ []

-- then the terms and the entries
abbrev pub sheet_bytes : Sheet → List ℕ
sheet_bytes s = front_bytes s ++ in_row term_bytes s.terms ++ in_row entry_bytes s.entries
