-- States of the machine that the readers speak of: in front of a byte, where a term begins, behind a term, behind whole lines.
-- Assumes nothing.
use Rattle.std.specs.Prelude.{ℕ, ◌≡◌, false, List, ◌∷◌, eqb, pos, negsuc, take}
use Rattle.text.specs.Text.{Plain, Term, Line}
use Rattle.text.specs.Text.Plain.{variable, apply}
use Rattle.text.specs.Text.Term.{number, plain, shifted}
use Rattle.text.specs.Typed.{Context, State}
use Rattle.text.specs.Machine.{first_digit, digit, is_digit, step, run, start}
use Rattle.text.specs.Typed.Context.{on_left}
use Rattle.text.specs.Typed.Lead.{of_negative, of_variable, of_symbol, of_shift}
use Rattle.text.specs.Typed.Use.{of_number, led}
use Rattle.text.specs.Typed.State.{due, digits, closed, wants}

-- the state in front of byte p
abbrev pub at : List ℕ → ℕ → State
at bs p = run start (take p bs)

-- a term begins in s as it does in C
pub record Like (s : State) (C : Context) : Type 0 where
  pub digit : (d : ℕ) → digit s d ≡ first_digit C of_number d
  pub negative : step s 45 ≡ due C of_negative
  pub symbol : step s 102 ≡ due C of_symbol
  pub letter : step s 120 ≡ due C of_variable

-- the state behind a term
abbrev pub ended_plain : Context → Plain → State
ended_plain C (variable n) = digits C (led of_variable) n
ended_plain C (apply f ts) = closed C f ts

abbrev pub ended : Context → Term → State
ended C (number (pos n)) = digits C of_number n
ended C (number (negsuc n)) = digits C (led of_negative) n
ended C (plain p) = ended_plain C p
ended C (shifted p s n) = digits C (led (of_shift p s)) n

-- what comes behind any term
pub record Behind (b : ℕ) : Type 0 where
  pub no_digit : is_digit b ≡ false
  pub no_plus : eqb b 43 ≡ false
  pub no_minus : eqb b 45 ≡ false

-- the machine has read one or more whole lines
pub record Whole (s : State) : Type 0 where
  pub first : Line
  pub others : List Line
  pub same : s ≡ wants (on_left (first ∷ others))
