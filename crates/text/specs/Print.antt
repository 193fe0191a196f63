-- What a text looks like: its bytes. "Of the form" is printed, and "begins so" is being the front of something printed.
-- Assumes nothing.
use Rattle.std.specs.Prelude.{ℕ, zero, suc, ◌+◌, ◌/◌, ◌%◌, ◌<◌, ◌≡◌, Bool, true, false, ◌&&◌, List, [], ◌∷◌, ◌++◌, leb, ltb, ℤ, pos, negsuc, length, take}
use Rattle.sheet.specs.Sheet.{Relation}
use Rattle.sheet.specs.Sheet.Relation.{equal, unequal, at_most, less}
use Rattle.text.specs.Text.{Sign, Plain, Arguments, Term, Line}
use Rattle.text.specs.Text.Sign.{plus, minus}
use Rattle.text.specs.Text.Plain.{variable, apply}
use Rattle.text.specs.Text.Arguments.{alone, pair}
use Rattle.text.specs.Text.Term.{number, plain, shifted}

-- a byte that is a decimal digit
abbrev pub is_digit : ℕ → Bool
is_digit b = leb 48 b && leb b 57

-- the decimal digits of n, at most k of them, without leading zeros
unfoldable pub digits_in : ℕ → ℕ → List ℕ
digits_in zero n = []
digits_in (suc k) n = elim (ltb n 10) [ true ↦ (48 + n) ∷ [] | false ↦ digits_in k (n / 10) ++ (48 + n % 10) ∷ [] ]

unfoldable pub decimal : ℕ → List ℕ
decimal n = digits_in (suc n) n

abbrev pub sign_byte : Sign → ℕ
sign_byte plus = 43
sign_byte minus = 45

abbrev pub print_relation : Relation → List ℕ
print_relation equal = 61 ∷ []
print_relation unequal = 33 ∷ 61 ∷ []
print_relation at_most = 60 ∷ 61 ∷ []
print_relation less = 60 ∷ []

abbrev pub print_number : ℤ → List ℕ
print_number (pos n) = decimal n
print_number (negsuc n) = 45 ∷ decimal (suc n)

abbrev mutual
  pub print_plain : Plain → List ℕ
  print_plain (variable n) = 120 ∷ decimal n
  print_plain (apply f ts) = 102 ∷ decimal f ++ 40 ∷ print_arguments ts ++ 41 ∷ []

  pub print_arguments : Arguments → List ℕ
  print_arguments (alone t) = print_term t
  print_arguments (pair t u) = print_term t ++ 44 ∷ print_term u

  pub print_term : Term → List ℕ
  print_term (number c) = print_number c
  print_term (plain p) = print_plain p
  print_term (shifted p s n) = print_plain p ++ sign_byte s ∷ decimal n

abbrev pub print_line : Line → List ℕ
print_line l = print_term l.left ++ print_relation l.relation ++ print_term l.right ++ 10 ∷ []

abbrev pub print : List Line → List ℕ
print [] = []
print (l ∷ ls) = print_line l ++ print ls

-- bs is a text of the form: the print of at least one line
pub record Printed (bs : List ℕ) : Type 0 where
  pub first : Line
  pub others : List Line
  pub same : print (first ∷ others) ≡ bs

-- some text of the form begins with bs
pub record Begins (bs : List ℕ) : Type 0 where
  pub rest : List ℕ
  pub text : Printed (bs ++ rest)

-- where bs stops being a text of the form: the first p bytes begin one and one byte more begins none, or bs ends too early
pub data Fault (bs : List ℕ) : ℕ → Type 0 where
  byte : {p : ℕ} → p < length bs → Begins (take p bs) → (Begins (take (suc p) bs) → ⊥) → Fault bs p
  early : Begins bs → (Printed bs → ⊥) → Fault bs (length bs)
