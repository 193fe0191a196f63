-- A machine that reads a text a byte at a time. Its state is the text as far as it is typed. Nothing here need be believed: proofs/ shows
-- that the machine's state looks as what it has read, and that every text goes through it.
-- Assumes nothing.
use Rattle.std.specs.Prelude.{ℕ, zero, suc, ◌+◌, ◌*◌, ◌-◌, Bool, true, cond, List, [], ◌∷◌, ◌++◌, ltb, eqb, pos, negsuc}
use Rattle.sheet.specs.Sheet.Relation.{equal, unequal, at_most, less}
use Rattle.text.specs.Text.{Plain, Term}
use Rattle.text.specs.Text.Sign.{plus, minus}
use Rattle.text.specs.Text.Plain.{variable, apply}
use Rattle.text.specs.Text.Arguments.{alone, pair}
use Rattle.text.specs.Text.Term.{number, plain, shifted}
pub use Rattle.text.specs.Print.{is_digit}
use Rattle.text.specs.Typed.{Context, Use, State, value}
use Rattle.text.specs.Typed.Context.{on_left, on_right, argument, second}
use Rattle.text.specs.Typed.Lead.{of_negative, of_variable, of_symbol, of_shift}
use Rattle.text.specs.Typed.Use.{of_number, led}
use Rattle.text.specs.Typed.State.{stopped, wants, due, digits, closed, bang, under}

abbrev pub Move : Type 0
Move = ℕ × State

abbrev pub pack : Use → ℕ → ℕ
pack of_number n = n
pack (led of_negative) zero = zero
pack (led of_negative) (suc n) = n
pack (led of_variable) n = n
pack (led of_symbol) n = n
pack (led (of_shift p s)) n = n

-- whether v can be the number
abbrev pub fits : Use → ℕ → Bool
fits of_number v = true
fits (led of_negative) v = ltb 0 v
fits (led of_variable) v = true
fits (led of_symbol) v = true
fits (led (of_shift p s)) v = true

-- behind the term t
abbrev pub after : Context → Term → List Move
after (on_left ls) t = (33, bang ls t) ∷ (60, under ls t) ∷ (61, wants (on_right ls t equal)) ∷ []
after (on_right ls u r) t = (10, wants (on_left (ls ++ record { left = u; relation = r; right = t } ∷ []))) ∷ []
after (argument f C) t = (44, wants (second f t C)) ∷ (41, closed C f (alone t)) ∷ []
after (second f u C) t = (41, closed C f (pair u t)) ∷ []

abbrev pub after_plain : Context → Plain → List Move
after_plain C p = (43, due C (of_shift p plus)) ∷ (45, due C (of_shift p minus)) ∷ after C (plain p)

abbrev pub after_number : Context → Use → ℕ → List Move
after_number C of_number n = after C (number (pos n))
after_number C (led of_negative) n = after C (number (negsuc n))
after_number C (led of_variable) n = after_plain C (variable n)
after_number C (led of_symbol) n = (40, wants (argument n C)) ∷ []
after_number C (led (of_shift p s)) n = after C (shifted p s n)

abbrev pub starts : Context → List Move
starts C = (45, due C of_negative) ∷ (102, due C of_symbol) ∷ (120, due C of_variable) ∷ []

-- what may come in a state, digits aside
abbrev pub moves : State → List Move
moves stopped = []
moves (wants C) = starts C
moves (due C L) = []
moves (digits C K n) = after_number C K n
moves (closed C f ts) = after_plain C (apply f ts)
moves (bang ls t) = (61, wants (on_right ls t unequal)) ∷ []
moves (under ls t) = (61, wants (on_right ls t at_most)) ∷ starts (on_right ls t less)

abbrev pub pick : List Move → ℕ → State
pick [] b = stopped
pick (m ∷ ms) b = cond (eqb b m.0) m.1 (pick ms b)

-- the first digit d of a number
abbrev pub first_digit : Context → Use → ℕ → State
first_digit C K d = cond (fits K d) (digits C K (pack K d)) stopped

-- the digit d
abbrev pub digit : State → ℕ → State
digit stopped d = stopped
digit (wants C) d = first_digit C of_number d
digit (due C L) d = first_digit C (led L) d
digit (digits C K n) d = cond (ltb 0 (value K n)) (digits C K (pack K (value K n * 10 + d))) stopped
digit (closed C f ts) d = stopped
digit (bang ls t) d = stopped
digit (under ls t) d = first_digit (on_right ls t less) of_number d

unfoldable pub step : State → ℕ → State
step s b = cond (is_digit b) (digit s (b - 48)) (pick (moves s) b)

unfoldable pub run : State → List ℕ → State
run s [] = s
run s (b ∷ bs) = run (step s b) bs

abbrev pub start : State
start = wants (on_left [])
