-- A text as far as it is typed: what stands before the place where the next byte goes, and how that looks.
-- Assumes nothing.
use Rattle.std.specs.Prelude.{ℕ, suc, List, [], ◌∷◌, ◌++◌}
use Rattle.sheet.specs.Sheet.{Relation}
use Rattle.text.specs.Text.{Sign, Plain, Arguments, Term, Line}
use Rattle.text.specs.Text.Plain.{apply}
use Rattle.text.specs.Print.{decimal, sign_byte, print_plain, print_term, print_relation, print}

-- where a term stands: on a side of a relation behind whole lines, or within brackets as an argument of a symbol
pub data Context : Type 0 where
  on_left : List Line → Context
  on_right : List Line → Term → Relation → Context
  argument : ℕ → Context → Context
  second : ℕ → Term → Context → Context

-- what stands before a number: the - of one below zero, an x, an f, a plain term and the sign of its shift
pub data Lead : Type 0 where
  of_negative of_variable of_symbol : Lead
  of_shift : Plain → Sign → Lead

-- or nothing does
pub data Use : Type 0 where
  of_number : Use
  led : Lead → Use

pub data State : Type 0 where
  -- nothing printed begins so
  stopped : State
  -- a term begins here; on the left of a line, the lines before it are whole
  wants : Context → State
  -- a number's first digit goes here
  due : Context → Lead → State
  -- within or behind a number
  digits : Context → Use → ℕ → State
  -- behind a closing bracket
  closed : Context → ℕ → Arguments → State
  -- behind the ! of !=
  bang : List Line → Term → State
  -- behind a <, of < or of <=
  under : List Line → Term → State

-- the number that stands in the text: that of a negative is one more, so that there is no -0
abbrev pub value : Use → ℕ → ℕ
value of_number n = n
value (led of_negative) n = suc n
value (led of_variable) n = n
value (led of_symbol) n = n
value (led (of_shift p s)) n = n

abbrev pub opened : Context → List ℕ
opened (on_left ls) = print ls
opened (on_right ls t r) = print ls ++ print_term t ++ print_relation r
opened (argument f C) = opened C ++ 102 ∷ decimal f ++ 40 ∷ []
opened (second f t C) = opened C ++ 102 ∷ decimal f ++ 40 ∷ print_term t ++ 44 ∷ []

abbrev pub lead : Lead → List ℕ
lead of_negative = 45 ∷ []
lead of_variable = 120 ∷ []
lead of_symbol = 102 ∷ []
lead (of_shift p s) = print_plain p ++ sign_byte s ∷ []

abbrev pub leading : Use → List ℕ
leading of_number = []
leading (led L) = lead L

-- how it looks
abbrev pub shown : State → List ℕ
shown stopped = []
shown (wants C) = opened C
shown (due C L) = opened C ++ lead L
shown (digits C K n) = opened C ++ leading K ++ decimal (value K n)
shown (closed C f ts) = opened C ++ print_plain (apply f ts)
shown (bang ls t) = print ls ++ print_term t ++ 33 ∷ []
shown (under ls t) = print ls ++ print_term t ++ 60 ∷ []

abbrev pub Alive : State → Type 0
Alive stopped = ⊥
Alive (wants C) = Unit {0}
Alive (due C L) = Unit {0}
Alive (digits C K n) = Unit {0}
Alive (closed C f ts) = Unit {0}
Alive (bang ls t) = Unit {0}
Alive (under ls t) = Unit {0}
