-- A sheet whose fields fit their bytes: a symbol one, c two. Nothing here need be believed: it says of which sheets the laws of the bytes are
-- shown.
-- Assumes nothing.
use Rattle.std.specs.Prelude.{◌≤◌, ◌<◌, List, [], ◌∷◌, ℤ, pos, negsuc}
use Rattle.sheet.specs.Sheet.{Term, unknown, number, shift, apply, apply2, Entry, Sheet}

-- -32,768 to 32,767
abbrev pub WholeIn : ℤ → Type 0
WholeIn (pos n) = n ≤ 32767
WholeIn (negsuc n) = n ≤ 32767

abbrev pub TermIn : Term → Type 0
TermIn unknown = Unit {0}
TermIn (number c) = WholeIn c
TermIn (shift a c) = WholeIn c
TermIn (apply symbol a) = symbol < 256
TermIn (apply2 symbol a b) = symbol < 256

abbrev pub EntryIn : Entry → Type 0
EntryIn e = WholeIn e.c

abbrev pub EachIn : {A : Type 0} → (A → Type 0) → List A → Type 0
EachIn P [] = Unit {0}
EachIn P (x ∷ xs) = P x × EachIn P xs

pub record FieldsIn (s : Sheet) : Type 0 where
  pub terms : EachIn TermIn s.terms
  pub entries : EachIn EntryIn s.entries
