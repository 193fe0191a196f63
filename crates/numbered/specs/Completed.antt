-- The terms completed in a text as far as it is typed, in the order in which they were. A term is completed at its last byte: digits end where
-- the next byte is none.
-- Assumes nothing.
use Rattle.std.specs.Prelude.{ℕ, Bool, cond, List, [], pos, negsuc}
use Rattle.text.specs.Text.Plain.{variable, apply}
use Rattle.text.specs.Text.Term.{number, shifted}
use Rattle.text.specs.Typed.{Context, Lead, Use, State}
use Rattle.text.specs.Typed.Context.{on_left, on_right, argument, second}
use Rattle.text.specs.Typed.Lead.{of_negative, of_variable, of_symbol, of_shift}
use Rattle.text.specs.Typed.Use.{of_number, led}
use Rattle.text.specs.Typed.State.{stopped, wants, due, digits, closed, bang, under}
use Rattle.numbered.specs.Numbered.{Key, enter_plain, enter_term, enter_lines}

-- before the term that stands here
abbrev pub met_before : Context → List Key
met_before (on_left ls) = (enter_lines ls []).keys
met_before (on_right ls t r) = (enter_term t (enter_lines ls []).keys).keys
met_before (argument f C) = met_before C
met_before (second f t C) = (enter_term t (met_before C)).keys

-- before a number's first digit: a plain term is completed before its shift
abbrev pub met_lead : Context → Lead → List Key
met_lead C of_negative = met_before C
met_lead C of_variable = met_before C
met_lead C of_symbol = met_before C
met_lead C (of_shift p s) = (enter_plain p (met_before C)).keys

abbrev pub met_use : Context → Use → List Key
met_use C of_number = met_before C
met_use C (led L) = met_lead C L

-- behind a number's last digit
abbrev pub met_number : Context → Use → ℕ → List Key
met_number C of_number n = (enter_term (number (pos n)) (met_before C)).keys
met_number C (led of_negative) n = (enter_term (number (negsuc n)) (met_before C)).keys
met_number C (led of_variable) n = (enter_plain (variable n) (met_before C)).keys
met_number C (led of_symbol) n = met_before C
met_number C (led (of_shift p s)) n = (enter_term (shifted p s n) (met_before C)).keys

-- whether a digit comes next is said
abbrev pub completed : Bool → State → List Key
completed more stopped = []
completed more (wants C) = met_before C
completed more (due C L) = met_lead C L
completed more (digits C K n) = cond more (met_use C K) (met_number C K n)
completed more (closed C f ts) = (enter_plain (apply f ts) (met_before C)).keys
completed more (bang ls t) = (enter_term t (enter_lines ls []).keys).keys
completed more (under ls t) = (enter_term t (enter_lines ls []).keys).keys
