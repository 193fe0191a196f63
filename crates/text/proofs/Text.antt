-- The machine tells what begins a text and what is one, and printing loses nothing.
-- Assumes nothing.
use Prim.Native.Nat.{ℕ}
use mathlib.Core.Path.{◌≡◌, refl, sym, ap, ◌∙◌, subst}
use mathlib.Core.List.{List, [], ◌∷◌, ◌++◌}
use lib.IntN.{pos, negsuc}
use Rattle.sheet.specs.Sheet.{Relation}
use Rattle.sheet.specs.Sheet.Relation.{equal, unequal, less}
use Rattle.text.specs.Text.{Term, Line}
use Rattle.text.specs.Text.Plain.{variable, apply}
use Rattle.text.specs.Text.Arguments.{alone, pair}
use Rattle.text.specs.Text.Term.{number, plain, shifted}
use Rattle.text.specs.Print.{print, Printed, Begins}
use Rattle.text.specs.Typed.{Context, Use, State, value, shown, Alive}
use Rattle.text.specs.Machine.{after, pick, step, run, start}
use Rattle.text.specs.Typed.Context.{on_left, on_right, argument, second}
use Rattle.text.specs.Typed.Lead.{of_negative, of_variable, of_symbol, of_shift}
use Rattle.text.specs.Typed.Use.{of_number, led}
use Rattle.text.specs.Typed.State.{stopped, wants, due, digits, closed, bang, under}
use Rattle.text.specs.Reach.{Like, ended, Behind, Whole}
use Rattle.text.proofs.Decimal.{decimal-digits}
use Rattle.text.proofs.Shown.{alive-before, run-shown}
use Rattle.text.proofs.Through.{run-append, Runs, here, byte, chain, reads, like-wants, like-under, end_step, closed-step, close, newline, equals, opens, bang-step, through, through-lines}

-- every printed text runs through
pub runs : (ls : List Line) → run start (print ls) ≡ wants (on_left ls)
runs ls = (through-lines [] ls).ran

abbrev lines_of : State → List Line
lines_of stopped = []
lines_of (wants (on_left ls)) = ls
lines_of (wants (on_right ls t r)) = []
lines_of (wants (argument f C)) = []
lines_of (wants (second f t C)) = []
lines_of (due C L) = []
lines_of (digits C K n) = []
lines_of (closed C f ts) = []
lines_of (bang ls t) = []
lines_of (under ls t) = []

-- printing loses nothing
pub print-injective : (ls ms : List Line) → print ls ≡ print ms → ls ≡ ms
print-injective ls ms e = ap lines_of (sym (runs ls) ∙ ap (run start) e ∙ runs ms)

-- a text is of the form exactly when the machine ends behind its last line
pub whole-printed : (bs : List ℕ) → Whole (run start bs) → Printed bs
whole-printed bs w = record {
  first = w.first;
  others = w.others;
  same = ap shown (sym w.same) ∙ run-shown start bs (subst Alive (sym w.same) tt);
}

pub printed-whole : (bs : List ℕ) → Printed bs → Whole (run start bs)
printed-whole bs p = record { first = p.first; others = p.others; same = ap (run start) (sym p.same) ∙ runs (p.first ∷ p.others) }

-- an ending that makes lines whole
pub record Ending (s : State) : Type 0 where
  pub rest : List ℕ
  pub lines : List Line
  pub last : Line
  pub ends : Runs s rest (wants (on_left (lines ++ last ∷ [])))

goes : {s u : State} {xs : List ℕ} → Runs s xs u → Ending u → Ending s
goes {xs = xs} r e = record { rest = xs ++ e.rest; lines = e.lines; last = e.last; ends = chain r e.ends }

-- the term x0
abbrev x0 : Term
x0 = plain (variable 0)

-- behind a term, whatever state that is
abbrev Ended : Context → Term → State → Type 0
Ended C t s = (b : ℕ) → Behind b → step s b ≡ pick (after C t) b

end-right : (ls : List Line) (u : Term) (r : Relation) (t : Term) (s : State) → Ended (on_right ls u r) t s → Ending s
end-right ls u r t s h = record { rest = 10 ∷ []; lines = ls; last = record { left = u; relation = r; right = t }; ends = byte (h 10 newline) here }

-- = and x0 behind a left side, and brackets closed from within
end-term : (C : Context) (t : Term) (s : State) → Ended C t s → Ending s
end-term (on_left ls) t s h =
    goes (byte (h 61 equals) (through x0 _ _ (like-wants (on_right ls t equal)))) (end-right ls t equal x0 _ (end_step (on_right ls t equal) x0))
end-term (on_right ls u r) t s h = end-right ls u r t s h
end-term (argument f C) t s h = goes (byte (h 41 close) here) (end-term C (plain (apply f (alone t))) (closed C f (alone t)) (closed-step C f (alone t)))
end-term (second f u C) t s h = goes (byte (h 41 close) here) (end-term C (plain (apply f (pair u t))) (closed C f (pair u t)) (closed-step C f (pair u t)))

-- x0 where a term is due
end-like : (C : Context) (s : State) → Like s C → Ending s
end-like C s l = goes (through x0 s C l) (end-term C x0 (ended C x0) (end_step C x0))

end-digits : (C : Context) (K : Use) (n : ℕ) → Ending (digits C K n)
end-digits C of_number n = end-term C (number (pos n)) _ (end_step C (number (pos n)))
end-digits C (led of_negative) n = end-term C (number (negsuc n)) _ (end_step C (number (negsuc n)))
end-digits C (led of_variable) n = end-term C (plain (variable n)) _ (end_step C (plain (variable n)))
end-digits C (led of_symbol) n = goes (byte (opens C n) here) (end-like (argument n C) _ (like-wants _))
end-digits C (led (of_shift p s)) n = end-term C (shifted p s n) _ (end_step C (shifted p s n))

-- every state has an ending
pub ending : (s : State) → Alive s → Ending s
ending stopped a = absurd a
ending (wants C) a = end-like C _ (like-wants C)
ending (due C L) a = goes (reads (due C L) C (led L) (λ d. refl) (decimal-digits (value (led L) 0)) 0 refl) (end-digits C (led L) 0)
ending (digits C K n) a = end-digits C K n
ending (closed C f ts) a = end-term C (plain (apply f ts)) _ (closed-step C f ts)
ending (bang ls t) a = goes (byte (bang-step ls t) here) (end-like (on_right ls t unequal) _ (like-wants _))
ending (under ls t) a = end-like (on_right ls t less) _ (like-under ls t)

whole-last : (s : State) (ls : List Line) (l : Line) → s ≡ wants (on_left (ls ++ l ∷ [])) → Whole s
whole-last s [] l e = record { first = l; others = []; same = e }
whole-last s (m ∷ ls) l e = record { first = m; others = ls ++ l ∷ []; same = e }

-- a text begins so exactly when the machine hasn't stopped
pub alive-begins : (bs : List ℕ) → Alive (run start bs) → Begins bs
alive-begins bs a =
    let e = ending (run start bs) a in
    record { rest = e.rest; text = whole-printed (bs ++ e.rest) (whole-last _ e.lines e.last (run-append start bs e.rest ∙ e.ends.ran)) }

pub begins-alive : (bs : List ℕ) → Begins bs → Alive (run start bs)
begins-alive bs b =
    let w = printed-whole (bs ++ b.rest) b.text in
    alive-before (run start bs) b.rest (subst Alive (sym w.same ∙ run-append start bs b.rest) tt)
