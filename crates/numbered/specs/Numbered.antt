-- The sheet of a text: terms take numbers in the order in which they are completed, and a term already met keeps its number.
-- Assumes nothing.
use Rattle.std.specs.Prelude.{ℕ, zero, suc, Bool, true, false, cond, ◌&&◌, List, [], ◌∷◌, ◌++◌, map, ltb, eqb, ℤ, pos, negsuc, neg_ℤ, length}
use Rattle.sheet.specs.Sheet as Sheets
use Rattle.text.specs.Text.{Sign, Plain, Arguments, Term, Line}
use Rattle.text.specs.Text.Sign.{plus, minus}
use Rattle.text.specs.Text.Plain.{variable, apply}
use Rattle.text.specs.Text.Arguments.{alone, pair}
use Rattle.text.specs.Text.Term.{number, plain, shifted}

-- a term with its arguments by their numbers; that of x0-0 is that of x0+0
pub data Key : Type 0 where
  of_variable : (n : ℕ) → Key
  of_number : (c : ℤ) → Key
  of_shift : (a : ℕ) (c : ℤ) → Key
  of_apply : (symbol a : ℕ) → Key
  of_apply2 : (symbol a b : ℕ) → Key

abbrev pub whole_code : ℤ → List ℕ
whole_code (pos n) = 0 ∷ n ∷ []
whole_code (negsuc n) = 1 ∷ n ∷ []

-- a key as numbers, to tell keys apart
abbrev pub code : Key → List ℕ
code (of_variable n) = 0 ∷ n ∷ []
code (of_number c) = 1 ∷ whole_code c
code (of_shift a c) = 2 ∷ a ∷ whole_code c
code (of_apply f a) = 3 ∷ f ∷ a ∷ []
code (of_apply2 f a b) = 4 ∷ f ∷ a ∷ b ∷ []

abbrev pub same_list : List ℕ → List ℕ → Bool
same_list [] [] = true
same_list [] (y ∷ ys) = false
same_list (x ∷ xs) [] = false
same_list (x ∷ xs) (y ∷ ys) = eqb x y && same_list xs ys

-- the number of k among the terms met, or that of the next term
abbrev pub find : List Key → Key → ℕ
find [] k = zero
find (x ∷ xs) k = cond (same_list (code x) (code k)) zero (suc (find xs k))

-- the terms met, and the number of the one completed last
pub record Entered : Type 0 where
  pub keys : List Key
  pub last : ℕ

abbrev pub enter_key : List Key → Key → Entered
enter_key xs k = record { keys = cond (ltb (find xs k) (length xs)) xs (xs ++ k ∷ []); last = find xs k }

abbrev pub amount : Sign → ℕ → ℤ
amount plus n = pos n
amount minus n = neg_ℤ (pos n)

abbrev mutual
  pub enter_plain : Plain → List Key → Entered
  enter_plain (variable n) xs = enter_key xs (of_variable n)
  enter_plain (apply f ts) xs = enter_applied f ts xs

  pub enter_applied : ℕ → Arguments → List Key → Entered
  enter_applied f (alone t) xs = let a = enter_term t xs in enter_key a.keys (of_apply f a.last)
  enter_applied f (pair t u) xs = let a = enter_term t xs in let b = enter_term u a.keys in enter_key b.keys (of_apply2 f a.last b.last)

  pub enter_term : Term → List Key → Entered
  enter_term (number c) xs = enter_key xs (of_number c)
  enter_term (plain p) xs = enter_plain p xs
  enter_term (shifted p s n) xs = let a = enter_plain p xs in enter_key a.keys (of_shift a.last (amount s n))

-- the terms met, and the entries; c is 0
pub record Noted : Type 0 where
  pub keys : List Key
  pub entries : List Sheets.Entry

abbrev pub enter_line : Line → List Key → Noted
enter_line l xs =
    let a = enter_term l.left xs in
    let b = enter_term l.right a.keys in
    record { keys = b.keys; entries = record { relation = l.relation; a = a.last; b = b.last; c = pos 0 } ∷ [] }

abbrev pub enter_lines : List Line → List Key → Noted
enter_lines [] xs = record { keys = xs; entries = [] }
enter_lines (l ∷ ls) xs =
    let a = enter_line l xs in
    let b = enter_lines ls a.keys in
    record { keys = b.keys; entries = a.entries ++ b.entries }

abbrev pub record_of : Key → Sheets.Term
record_of (of_variable n) = Sheets.unknown
record_of (of_number c) = Sheets.number c
record_of (of_shift a c) = Sheets.shift a c
record_of (of_apply f a) = Sheets.apply f a
record_of (of_apply2 f a b) = Sheets.apply2 f a b

-- the sheet of a text
abbrev pub sheet_of : List Line → Sheets.Sheet
sheet_of ls = record { terms = map record_of (enter_lines ls []).keys; entries = (enter_lines ls []).entries }
