-- Every state is reached, by the bytes that it shows: so a state is a partly typed text, whoever reads it.
-- Two states show the same: that behind a <, and that behind the < of <=.
-- Assumes nothing.
use Prim.Native.Nat.{ℕ}
use mathlib.Core.Path.{◌≡◌, refl, sym, ap, ◌∙◌}
use mathlib.Core.List.{List, [], ◌++◌, append-nil}
use Rattle.sheet.specs.Sheet.Relation.{less}
use Rattle.text.specs.Text.{Term, Line}
use Rattle.text.specs.Text.Plain.{apply}
use Rattle.text.specs.Print.{decimal}
use Rattle.text.specs.Typed.{Context, Lead, Use, State, value, opened, lead, leading, shown, Alive}
use Rattle.text.specs.Machine.{run, start}
use Rattle.text.specs.Typed.Context.{on_left, on_right, argument, second}
use Rattle.text.specs.Typed.Lead.{of_negative, of_variable, of_symbol, of_shift}
use Rattle.text.specs.Typed.Use.{of_number, led}
use Rattle.text.specs.Typed.State.{stopped, wants, due, digits, closed, bang, under}
use Rattle.text.specs.Reach.{Like}
use Rattle.text.proofs.Decimal.{decimal-digits}
use Rattle.text.proofs.Through.{Runs, here, byte, chain, reads, letter, like-wants, like-related, related, end_step, sign-step, comma, opens, through_plain, through, through-relation, through-lines}

-- the one of the states that the machine is in
abbrev wanted : Context → State
wanted (on_left ls) = wants (on_left ls)
wanted (on_right ls t r) = related ls t r
wanted (argument f C) = wants (argument f C)
wanted (second f t C) = wants (second f t C)

abbrev pub one : State → State
one stopped = stopped
one (wants C) = wanted C
one (due C L) = due C L
one (digits C K n) = digits C K n
one (closed C f ts) = closed C f ts
one (bang ls t) = bang ls t
one (under ls t) = under ls t

like-wanted : (C : Context) → Like (wanted C) C
like-wanted (on_left ls) = like-wants _
like-wanted (on_right ls t r) = like-related ls t r
like-wanted (argument f C) = like-wants _
like-wanted (second f t C) = like-wants _

left-side : (ls : List Line) (t : Term) → Runs start (shown (bang ls t)) (bang ls t)
left-side ls t = chain (chain (through-lines [] ls) (through t (wants (on_left ls)) (on_left ls) (like-wants _))) (byte (end_step (on_left ls) t 33 (record { no_digit = refl; no_plus = refl; no_minus = refl })) here)

reach : (C : Context) → Runs start (opened C) (wanted C)
reach (on_left ls) = through-lines [] ls
reach (on_right ls t r) = chain (chain (through-lines [] ls) (through t (wants (on_left ls)) (on_left ls) (like-wants _))) (through-relation ls t r)
reach (argument f C) = chain (chain (reach C) (letter C of_symbol f (like-wanted C).symbol)) (byte (opens C f) here)
reach (second f t C) =
    chain (chain (chain (reach C) (letter C of_symbol f (like-wanted C).symbol))
    (byte (opens C f) (through t (wants (argument f C)) (argument f C) (like-wants _))))
    (byte (end_step (argument f C) t 44 comma) here)

reach-due : (C : Context) (L : Lead) → Runs start (opened C ++ lead L) (due C L)
reach-due C of_negative = chain (reach C) (byte (like-wanted C).negative here)
reach-due C of_variable = chain (reach C) (byte (like-wanted C).letter here)
reach-due C of_symbol = chain (reach C) (byte (like-wanted C).symbol here)
reach-due C (of_shift p s) = chain (reach C) (chain (through_plain p (wanted C) C (like-wanted C)) (byte (sign-step C p s) here))

reach-digits : (C : Context) (K : Use) (n : ℕ) → Runs start (opened C ++ leading K ++ decimal (value K n)) (digits C K n)
reach-digits C of_number n = chain {xs = opened C ++ []} (rw append-nil (reach C)) (reads (wanted C) C of_number (like-wanted C).digit (decimal-digits n) n refl)
reach-digits C (led L) n = chain (reach-due C L) (reads (due C L) C (led L) (λ d. refl) (decimal-digits (value (led L) n)) n refl)

-- what a state shows leads to it
pub reached : (s : State) → Alive s → Runs start (shown s) (one s)
reached stopped a = absurd a
reached (wants C) a = reach C
reached (due C L) a = reach-due C L
reached (digits C K n) a = reach-digits C K n
reached (closed C f ts) a = chain (reach C) (through_plain (apply f ts) (wanted C) C (like-wanted C))
reached (bang ls t) a = left-side ls t
reached (under ls t) a = reach (on_right ls t less)

-- states that show the same are the same
pub shown-injective : (s u : State) → Alive s → Alive u → shown s ≡ shown u → one s ≡ one u
shown-injective s u a b e = sym (reached s a).ran ∙ ap (run start) e ∙ (reached u b).ran
