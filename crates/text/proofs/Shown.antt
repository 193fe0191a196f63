-- What the machine's state shows is what it has read.
-- Assumes nothing.
use Prim.Native.Nat.{ℕ, zero, suc, ◌+◌, ◌*◌, ◌-◌, ◌<◌}
use mathlib.Core.Path.{◌≡◌, refl, sym, ap, ◌∙◌, subst}
use mathlib.Core.Bool.{Bool, true, false, cond, ◌&&◌, false≢true}
use mathlib.Core.List.{List, [], ◌∷◌, ◌++◌, append-nil, append_assoc}
use lib.Dec.{eqb, ltb, leb}
use lib.IntN.{pos, negsuc}
use native.Mathlib.Omega.{arith}
use borrow.Author.Tests.{eqb-true, ltb-true, leb-true, lt-ltb}
use Rattle.sheet.specs.Sheet.Relation.{less}
use Rattle.text.specs.Text.{Plain, Term, Line}
use Rattle.text.specs.Text.Plain.{variable, apply}
use Rattle.text.specs.Text.Term.{number, plain, shifted}
use Rattle.text.specs.Print.{decimal, sign_byte, print_plain, print_term, print_line, print}
use Rattle.text.specs.Typed.{Context, Use, State, value, opened, lead, leading, shown, Alive}
use Rattle.text.specs.Machine.{Move, pack, fits, after, after_plain, after_number, starts, moves, pick, digit, is_digit, step, run}
use Rattle.text.specs.Typed.Context.{on_left, on_right, argument, second}
use Rattle.text.specs.Typed.Lead.{of_negative, of_variable, of_symbol, of_shift}
use Rattle.text.specs.Typed.Use.{of_number, led}
use Rattle.text.specs.Typed.State.{stopped, wants, due, digits, closed, bang, under}
use Rattle.text.proofs.Decimal.{decimal-one, decimal-more}

pub print-append : (ls ms : List Line) → print (ls ++ ms) ≡ print ls ++ print ms
print-append [] ms = refl
print-append (l ∷ ls) ms = ap (λ (x : List ℕ). print_line l ++ x) (print-append ls ms) ∙ sym (append_assoc (print_line l) (print ls) (print ms))

pub value-pack : (K : Use) (v : ℕ) → fits K v ≡ true → value K (pack K v) ≡ v
value-pack of_number v h = refl
value-pack (led of_negative) zero h = absurd (omega (arith, ltb-true 0 0 h))
value-pack (led of_negative) (suc v) h = refl
value-pack (led of_variable) v h = refl
value-pack (led of_symbol) v h = refl
value-pack (led (of_shift p s)) v h = refl

pub pack-value : (K : Use) (n : ℕ) → pack K (value K n) ≡ n
pack-value of_number n = refl
pack-value (led of_negative) n = refl
pack-value (led of_variable) n = refl
pack-value (led of_symbol) n = refl
pack-value (led (of_shift p s)) n = refl

pub fits-some : (K : Use) (v : ℕ) → 0 < v → fits K v ≡ true
fits-some of_number v h = refl
fits-some (led of_negative) v h = lt-ltb 0 v h
fits-some (led of_variable) v h = refl
fits-some (led of_symbol) v h = refl
fits-some (led (of_shift p s)) v h = refl

pub fits-value : (K : Use) (n : ℕ) → fits K (value K n) ≡ true
fits-value of_number n = refl
fits-value (led of_negative) n = lt-ltb 0 (suc n) (omega arith)
fits-value (led of_variable) n = refl
fits-value (led of_symbol) n = refl
fits-value (led (of_shift p s)) n = refl

-- each move shows p and its own byte
abbrev Moved : List ℕ → List Move → Type 0
Moved p [] = Unit {0}
Moved p (m ∷ ms) = (shown m.1 ≡ p ++ m.0 ∷ []) × Moved p ms

pick-shown : (p : List ℕ) (ms : List Move) (b : ℕ) → Moved p ms → Alive (pick ms b) → shown (pick ms b) ≡ p ++ b ∷ []
pick-shown p [] b h a = absurd a
pick-shown p (m ∷ ms) b h a = go (eqb b m.0) refl (pick-shown p ms b h.1) a
  where
    go : (t : Bool) → eqb b m.0 ≡ t → (Alive (pick ms b) → shown (pick ms b) ≡ p ++ b ∷ []) → Alive (cond t m.1 (pick ms b)) → shown (cond t m.1 (pick ms b)) ≡ p ++ b ∷ []
    go true q f a = h.0 ∙ ap (λ (x : ℕ). p ++ x ∷ []) (sym (eqb-true b m.0 q))
    go false q f a = f a

starts-moved : (C : Context) → Moved (opened C) (starts C)
starts-moved C = (refl, (refl, (refl, tt)))

across : (a b c d e : List ℕ) → a ++ (b ++ (c ++ 44 ∷ d) ++ e) ≡ a ++ b ++ c ++ 44 ∷ [] ++ d ++ e
across a b c d e =
    simp append_assoc

after-moved : (C : Context) (t : Term) → Moved (opened C ++ print_term t) (after C t)
after-moved (on_left ls) t = (refl, (refl, (refl, tt)))
after-moved (on_right ls u r) t = (print-append ls _ ∙ simp (append_assoc, append-nil), tt)
after-moved (argument f C) t = (simp append_assoc, (simp append_assoc, tt))
after-moved (second f u C) t = (across (opened C) (102 ∷ decimal f) (40 ∷ print_term u) (print_term t) (41 ∷ []), tt)

plain_moved : (C : Context) (p : Plain) → Moved (opened C ++ print_plain p) (after_plain C p)
plain_moved C p = (simp append_assoc, (simp append_assoc, after-moved C (plain p)))

before : (C : Context) (a b : List ℕ) (ms : List Move) → Moved (opened C ++ (a ++ b)) ms → Moved (opened C ++ a ++ b) ms
before C a b ms h = subst (λ (p : List ℕ). Moved p ms) (sym (append_assoc (opened C) a b)) h

number-moved : (C : Context) (K : Use) (n : ℕ) → Moved (opened C ++ leading K ++ decimal (value K n)) (after_number C K n)
number-moved C of_number n = subst (λ (p : List ℕ). Moved (p ++ decimal n) (after_number C of_number n)) (sym (append-nil (opened C))) (after-moved C (number (pos n)))
number-moved C (led of_negative) n = before C (45 ∷ []) (decimal (suc n)) (after_number C (led of_negative) n) (after-moved C (number (negsuc n)))
number-moved C (led of_variable) n = before C (120 ∷ []) (decimal n) (after_number C (led of_variable) n) (plain_moved C (variable n))
number-moved C (led of_symbol) n = (ap (λ (x : List ℕ). x ++ 40 ∷ []) (sym (append_assoc (opened C) (102 ∷ []) (decimal n))), tt)
number-moved C (led (of_shift p s)) n = before C (print_plain p ++ sign_byte s ∷ []) (decimal n) (after_number C (led (of_shift p s)) n) (rw (append_assoc (print_plain p)) (after-moved C (shifted p s n)))

moves-moved : (s : State) → Moved (shown s) (moves s)
moves-moved stopped = tt
moves-moved (wants C) = starts-moved C
moves-moved (due C L) = tt
moves-moved (digits C K n) = number-moved C K n
moves-moved (closed C f ts) = plain_moved C (apply f ts)
moves-moved (bang ls t) = (simp append_assoc, tt)
moves-moved (under ls t) = (simp append_assoc, starts-moved (on_right ls t less))

digit-shown : (s : State) (d : ℕ) → d < 10 → Alive (digit s d) → shown (digit s d) ≡ shown s ++ (48 + d) ∷ []
digit-shown stopped d h a = absurd a
digit-shown (wants C) d h a = rw (append-nil, decimal-one d h)
digit-shown (due C L) d h a = go (fits (led L) d) refl a
  where
    go : (t : Bool) → fits (led L) d ≡ t → Alive (cond t (digits C (led L) (pack (led L) d)) stopped) → shown (cond t (digits C (led L) (pack (led L) d)) stopped) ≡ opened C ++ lead L ++ (48 + d) ∷ []
    go true q a = rw (value-pack (led L) d q, decimal-one d h)
    go false q a = absurd a
digit-shown (digits C K n) d h a = go (ltb 0 (value K n)) refl a
  where
    next : State
    next = digits C K (pack K (value K n * 10 + d))

    go : (t : Bool) → ltb 0 (value K n) ≡ t → Alive (cond t next stopped) → shown (cond t next stopped) ≡ opened C ++ leading K ++ decimal (value K n) ++ (48 + d) ∷ []
    go true q a =
        let l = ltb-true 0 (value K n) q in
        rw (value-pack K (value K n * 10 + d) (fits-some K _ (omega arith)), decimal-more (value K n) d l h) (sym (append_assoc (opened C ++ leading K) _ _))
    go false q a = absurd a
digit-shown (closed C f ts) d h a = absurd a
digit-shown (bang ls t) d h a = absurd a
digit-shown (under ls t) d h a = rw (append-nil, decimal-one d h)

both : (t u : Bool) → (t && u) ≡ true → (t ≡ true) × (u ≡ true)
both true true e = (refl, refl)
both true false e = absurd (false≢true e)
both false u e = absurd (false≢true e)

step-shown : (s : State) (b : ℕ) → Alive (step s b) → shown (step s b) ≡ shown s ++ b ∷ []
unfolding step
step-shown s b a = go (is_digit b) refl a
  where
    go : (t : Bool) → is_digit b ≡ t → Alive (cond t (digit s (b - 48)) (pick (moves s) b)) → shown (cond t (digit s (b - 48)) (pick (moves s) b)) ≡ shown s ++ b ∷ []
    go true q a =
        let (l, m) = both (leb 48 b) (leb b 57) q in
        let u = leb-true 48 b l in
        let v = leb-true b 57 m in
        let e : 48 + (b - 48) ≡ b = omega arith in
        digit-shown s (b - 48) (omega arith) a ∙ ap (λ (x : ℕ). shown s ++ x ∷ []) e
    go false q a = pick-shown (shown s) (moves s) b (moves-moved s) a

pub run-stopped : (bs : List ℕ) → run stopped bs ≡ stopped
unfolding run step
run-stopped [] = refl
run-stopped (b ∷ bs) = go (is_digit b) (run-stopped bs)
  where
    go : (t : Bool) → run stopped bs ≡ stopped → run (cond t stopped stopped) bs ≡ stopped
    go true e = e
    go false e = e

-- a run that hasn't stopped hadn't stopped before
pub alive-before : (s : State) (bs : List ℕ) → Alive (run s bs) → Alive s
alive-before stopped bs a = rw run-stopped at a
alive-before (wants C) bs a = tt
alive-before (due C L) bs a = tt
alive-before (digits C K n) bs a = tt
alive-before (closed C f ts) bs a = tt
alive-before (bang ls t) bs a = tt
alive-before (under ls t) bs a = tt

pub run-shown : (s : State) (bs : List ℕ) → Alive (run s bs) → shown (run s bs) ≡ shown s ++ bs
unfolding run
run-shown s [] a = sym (append-nil (shown s))
run-shown s (b ∷ bs) a =
    run-shown (step s b) bs a ∙ ap (λ (x : List ℕ). x ++ bs) (step-shown s b (alive-before (step s b) bs a)) ∙ append_assoc (shown s) (b ∷ []) bs
