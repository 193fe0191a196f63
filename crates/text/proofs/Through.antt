-- Every printed text runs through the machine, to the state that holds it.
-- Assumes nothing.
use Prim.Native.Nat.{ℕ, ◌+◌, ◌-◌, ◌<◌}
use mathlib.Core.Path.{◌≡◌, refl, ap, ◌∙◌}
use mathlib.Core.List.{List, [], ◌∷◌, ◌++◌, append-nil, append_assoc}
use lib.IntN.{pos, negsuc}
use native.Mathlib.Omega.{arith}
use borrow.Author.Tests.{lt-ltb, le-leb}
use Rattle.sheet.specs.Sheet.{Relation}
use Rattle.sheet.specs.Sheet.Relation.{equal, unequal, at_most, less}
use Rattle.text.specs.Text.{Sign, Plain, Arguments, Term, Line}
use Rattle.text.specs.Text.Sign.{plus, minus}
use Rattle.text.specs.Text.Plain.{variable, apply}
use Rattle.text.specs.Text.Arguments.{alone, pair}
use Rattle.text.specs.Text.Term.{number, plain, shifted}
use Rattle.text.specs.Print.{decimal, sign_byte, print_relation, print_plain, print_arguments, print_term, print_line, print}
use Rattle.text.specs.Typed.{Context, Lead, Use, State, value}
use Rattle.text.specs.Machine.{pack, after, pick, first_digit, digit, step, run}
use Rattle.text.specs.Typed.Context.{on_left, on_right, argument, second}
use Rattle.text.specs.Typed.Lead.{of_negative, of_variable, of_symbol, of_shift}
use Rattle.text.specs.Typed.Use.{of_number, led}
use Rattle.text.specs.Typed.State.{wants, due, digits, closed, bang, under}
use Rattle.text.specs.Reach.{Like, ended_plain, ended, Behind}
use Rattle.text.proofs.Decimal.{Digits, decimal-digits}
use Rattle.text.proofs.Decimal.Digits.{one, more}
use Rattle.text.proofs.Shown.{value-pack, pack-value, fits-some, fits-value}

pub run-append : (s : State) (xs ys : List ℕ) → run s (xs ++ ys) ≡ run (run s xs) ys
unfolding run
run-append s [] ys = refl
run-append s (x ∷ xs) ys = run-append (step s x) xs ys

-- from s, the bytes xs lead to u
pub record Runs (s : State) (xs : List ℕ) (u : State) : Type 0 where
  pub ran : run s xs ≡ u

pub here : {s : State} → Runs s [] s
unfolding run
here = record { ran = refl }

pub byte : {s u w : State} {b : ℕ} {bs : List ℕ} → step s b ≡ u → Runs u bs w → Runs s (b ∷ bs) w
unfolding run
byte {bs = bs} e r = record { ran = ap (λ (x : State). run x bs) e ∙ r.ran }

pub chain : {s u w : State} {xs ys : List ℕ} → Runs s xs u → Runs u ys w → Runs s (xs ++ ys) w
chain {s} {xs = xs} {ys = ys} p q = record { ran = run-append s xs ys ∙ ap (λ (x : State). run x ys) p.ran ∙ q.ran }

pub digit-step : (s : State) (d : ℕ) → d < 10 → step s (48 + d) ≡ digit s d
unfolding step
digit-step s d h =
    let e : 48 + d - 48 ≡ d = omega arith in
    rw (le-leb 48 (48 + d) (omega arith), le-leb (48 + d) 57 (omega arith), e)

-- a number is read, wherever one begins
pub reads : (s : State) (C : Context) (K : Use) → ((d : ℕ) → digit s d ≡ first_digit C K d) → {v : ℕ} {ds : List ℕ} → Digits v ds →
    (n : ℕ) → value K n ≡ v → Runs s ds (digits C K n)
reads s C K b (one {d} h) n e =
    byte (digit-step s d h ∙ b d ∙ rw (← e, fits-value K n, pack-value K n)) here
reads s C K b (more {v} {d} {ds} h l D) n e =
    let q = value-pack K v (fits-some K v h) in
    chain (reads s C K b D (pack K v) q) (byte (digit-step (digits C K (pack K v)) d l ∙ rw (q, lt-ltb 0 v h, ← e, pack-value K n)) here)

-- behind the letter or the sign
pub letter : {s : State} {b : ℕ} (C : Context) (L : Lead) (n : ℕ) → step s b ≡ due C L → Runs s (b ∷ decimal (value (led L) n)) (digits C (led L) n)
letter C L n e = byte e (reads (due C L) C (led L) (λ d. refl) (decimal-digits (value (led L) n)) n refl)

pub like-wants : (C : Context) → Like (wants C) C
unfolding step
like-wants C = record { digit = λ d. refl; negative = refl; symbol = refl; letter = refl }

pub like-under : (ls : List Line) (t : Term) → Like (under ls t) (on_right ls t less)
unfolding step
like-under ls t = record { digit = λ d. refl; negative = refl; symbol = refl; letter = refl }

-- a shift goes on from a plain term
pub sign-step : (C : Context) (p : Plain) (s : Sign) → step (ended_plain C p) (sign_byte s) ≡ due C (of_shift p s)
unfolding step
sign-step C (variable n) plus = refl
sign-step C (variable n) minus = refl
sign-step C (apply f ts) plus = refl
sign-step C (apply f ts) minus = refl

pub closed-step : (C : Context) (f : ℕ) (ts : Arguments) (b : ℕ) → Behind b → step (closed C f ts) b ≡ pick (after C (plain (apply f ts))) b
unfolding step
closed-step C f ts b h = rw (h.no_digit, h.no_plus, h.no_minus)

pub variable-step : (C : Context) (n b : ℕ) → Behind b → step (digits C (led of_variable) n) b ≡ pick (after C (plain (variable n))) b
unfolding step
variable-step C n b h = rw (h.no_digit, h.no_plus, h.no_minus)

pub end_step : (C : Context) (t : Term) (b : ℕ) → Behind b → step (ended C t) b ≡ pick (after C t) b
unfolding step
end_step C (number (pos n)) b h = rw h.no_digit
end_step C (number (negsuc n)) b h = rw h.no_digit
end_step C (plain (variable n)) b h = variable-step C n b h
end_step C (plain (apply f ts)) b h = closed-step C f ts b h
end_step C (shifted p s n) b h = rw h.no_digit

pub comma : Behind 44
comma = record { no_digit = refl; no_plus = refl; no_minus = refl }

pub close : Behind 41
close = record { no_digit = refl; no_plus = refl; no_minus = refl }

pub newline : Behind 10
newline = record { no_digit = refl; no_plus = refl; no_minus = refl }

pub equals : Behind 61
equals = record { no_digit = refl; no_plus = refl; no_minus = refl }

pub opens : (C : Context) (f : ℕ) → step (digits C (led of_symbol) f) 40 ≡ wants (argument f C)
unfolding step
opens C f = refl

-- the state behind an argument list, before its closing bracket
abbrev pub within : ℕ → Context → Arguments → State
within f C (alone t) = ended (argument f C) t
within f C (pair t u) = ended (second f t C) u

pub closes : (ts : Arguments) (f : ℕ) (C : Context) → step (within f C ts) 41 ≡ closed C f ts
closes (alone t) f C = end_step (argument f C) t 41 close
closes (pair t u) f C = end_step (second f t C) u 41 close

mutual
  pub through_plain : (p : Plain) (s : State) (C : Context) → Like s C → Runs s (print_plain p) (ended_plain C p)
  through_plain (variable n) s C l = letter C of_variable n l.letter
  through_plain (apply f ts) s C l =
      chain (chain (letter C of_symbol f l.symbol) (byte (opens C f) (through-arguments ts f C))) (byte (closes ts f C) here)

  pub through-arguments : (ts : Arguments) (f : ℕ) (C : Context) → Runs (wants (argument f C)) (print_arguments ts) (within f C ts)
  through-arguments (alone t) f C = through t (wants (argument f C)) (argument f C) (like-wants _)
  through-arguments (pair t u) f C =
      chain (through t (wants (argument f C)) (argument f C) (like-wants _))
      (byte (end_step (argument f C) t 44 comma) (through u (wants (second f t C)) (second f t C) (like-wants _)))

  pub through : (t : Term) (s : State) (C : Context) → Like s C → Runs s (print_term t) (ended C t)
  through (number (pos n)) s C l = reads s C of_number l.digit (decimal-digits n) n refl
  through (number (negsuc n)) s C l = letter C of_negative n l.negative
  through (plain p) s C l = through_plain p s C l
  through (shifted p g n) s C l = chain (through_plain p s C l) (letter C (of_shift p g) n (sign-step C p g))

-- the state behind a relation
abbrev pub related : List Line → Term → Relation → State
related ls t equal = wants (on_right ls t equal)
related ls t unequal = wants (on_right ls t unequal)
related ls t at_most = wants (on_right ls t at_most)
related ls t less = under ls t

pub like-related : (ls : List Line) (t : Term) (r : Relation) → Like (related ls t r) (on_right ls t r)
like-related ls t equal = like-wants _
like-related ls t unequal = like-wants _
like-related ls t at_most = like-wants _
like-related ls t less = like-under ls t

pub bang-step : (ls : List Line) (t : Term) → step (bang ls t) 61 ≡ wants (on_right ls t unequal)
unfolding step
bang-step ls t = refl

pub under-step : (ls : List Line) (t : Term) → step (under ls t) 61 ≡ wants (on_right ls t at_most)
unfolding step
under-step ls t = refl

pub through-relation : (ls : List Line) (t : Term) (r : Relation) → Runs (ended (on_left ls) t) (print_relation r) (related ls t r)
through-relation ls t equal = byte (end_step (on_left ls) t 61 (record { no_digit = refl; no_plus = refl; no_minus = refl })) here
through-relation ls t unequal = byte (end_step (on_left ls) t 33 (record { no_digit = refl; no_plus = refl; no_minus = refl })) (byte (bang-step ls t) here)
through-relation ls t at_most = byte (end_step (on_left ls) t 60 (record { no_digit = refl; no_plus = refl; no_minus = refl })) (byte (under-step ls t) here)
through-relation ls t less = byte (end_step (on_left ls) t 60 (record { no_digit = refl; no_plus = refl; no_minus = refl })) here

through-line : (ls : List Line) (l : Line) → Runs (wants (on_left ls)) (print_line l) (wants (on_left (ls ++ l ∷ [])))
through-line ls l =
    chain (chain (chain (through l.left (wants (on_left ls)) (on_left ls) (like-wants _))
    (through-relation ls l.left l.relation))
    (through l.right (related ls l.left l.relation) (on_right ls l.left l.relation) (like-related ls l.left l.relation)))
    (byte (end_step (on_right ls l.left l.relation) l.right 10 newline) here)

pub through-lines : (ls ms : List Line) → Runs (wants (on_left ls)) (print ms) (wants (on_left (ls ++ ms)))
through-lines ls [] = rw append-nil here
through-lines ls (m ∷ ms) = rw (← append_assoc ls (m ∷ []) ms) (chain (through-line ls m) (through-lines (ls ++ m ∷ []) ms))
