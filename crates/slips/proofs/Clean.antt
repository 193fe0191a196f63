-- Bytes before which there is no slip, and the first slip behind such bytes.
-- Assumes nothing.
use Prim.Native.Nat.{ℕ, suc, ◌≤◌, ◌<◌}
use mathlib.Core.Path.{◌≡◌, refl, sym, ap, ◌∙◌, subst}
use mathlib.Core.Bool.{Bool}
use mathlib.Core.List.{List}
use lib.ListN.{length, take}
use native.Mathlib.Omega.{arith}
use native.Mathlib.Decide.{dec_lt}
use Rattle.sheet.specs.Limits.{max_terms, max_entries}
use Rattle.sheet.specs.Sheet.Relation.{equal, unequal, at_most, less}
use Rattle.text.specs.Text.{Term, Line}
use Rattle.text.specs.Print.{Fault}
use Rattle.text.specs.Print.Fault.{byte, early}
use Rattle.text.specs.Typed.{Context, Use, State, value, Alive}
use Rattle.text.specs.Typed.Context.{on_left, on_right, argument, second}
use Rattle.text.specs.Typed.State.{stopped, wants, due, digits, closed, bang, under}
use Rattle.text.specs.Machine.{run, start}
use Rattle.text.specs.Reach.{at}
use Rattle.text.proofs.Place.{begins-upto}
use Rattle.text.proofs.Shown.{run-shown}
use Rattle.text.proofs.Text.{alive-begins}
use Rattle.text.proofs.Reached.{one, reached}
use Rattle.numbered.specs.Completed.{completed}
use Rattle.slips.specs.Slips.{max_depth, limit, depth, begun, digit_at, Upto, Slip, FirstSlip}
use Rattle.slips.specs.Slips.Slip.{form, deep, range, terms, lines}

-- the state that a text looks as is the machine's, or one that looks the same
upto-at : {bs : List ℕ} {p : ℕ} {s : State} → Upto bs p s → one s ≡ at bs (suc p)
upto-at {s = s} u = sym (reached s u.alive).ran ∙ ap (run start) u.looks

at-upto : (bs : List ℕ) (p : ℕ) → p < length bs → Alive (at bs (suc p)) → Upto bs p (at bs (suc p))
at-upto bs p h a = record { within = h; alive = a; looks = run-shown start (take (suc p) bs) a }

-- what doesn't tell the two states behind a < apart, doesn't tell apart states that look the same
one-as : {A : Type 0} (f : State → A) → ((ls : List Line) (t : Term) → f (under ls t) ≡ f (wants (on_right ls t less))) → (s : State) → f (one s) ≡ f s
one-as f h stopped = refl
one-as f h (wants (on_left ls)) = refl
one-as f h (wants (on_right ls t equal)) = refl
one-as f h (wants (on_right ls t unequal)) = refl
one-as f h (wants (on_right ls t at_most)) = refl
one-as f h (wants (on_right ls t less)) = h ls t
one-as f h (wants (argument g C)) = refl
one-as f h (wants (second g t C)) = refl
one-as f h (due C L) = refl
one-as f h (digits C K n) = refl
one-as f h (closed C g ts) = refl
one-as f h (bang ls t) = refl
one-as f h (under ls t) = refl

one-depth : (s : State) → depth (one s) ≡ depth s
one-depth = one-as depth (λ ls t. refl)

one-begun : (s : State) → begun (one s) ≡ begun s
one-begun = one-as begun (λ ls t. refl)

one-completed : (more : Bool) (s : State) → completed more (one s) ≡ completed more s
one-completed more = one-as (completed more) (λ ls t. refl)

-- a number that isn't over its limit
abbrev pub InRange : State → Type 0
InRange stopped = Unit {0}
InRange (wants C) = Unit {0}
InRange (due C L) = Unit {0}
InRange (digits C K n) = value K n ≤ limit K
InRange (closed C f ts) = Unit {0}
InRange (bang ls t) = Unit {0}
InRange (under ls t) = Unit {0}

-- no slip before byte p
abbrev pub Clean : List ℕ → ℕ → Type 0
Clean bs p = (N q : ℕ) → Slip bs N q → p ≤ q

-- byte p is a text's, goes no deeper than may be, and takes no number out of range
pub record Sound (bs : List ℕ) (p : ℕ) : Type 0 where
  pub within : p < length bs
  pub alive : Alive (at bs (suc p))
  pub shallow : depth (at bs (suc p)) ≤ max_depth
  pub in_range : InRange (at bs (suc p))

-- and it has no term or line too many
pub record Fine (bs : List ℕ) (p : ℕ) : Type 0 where
  pub sound : Sound bs p
  pub terms : length (completed (digit_at bs (suc p)) (at bs (suc p))) ≤ max_terms
  pub lines : begun (at bs (suc p)) ≤ max_entries

-- where a byte is a text's, no fault is
no-fault : {bs : List ℕ} {p q : ℕ} → p < length bs → Alive (at bs (suc p)) → q ≤ p → Fault bs q → ⊥
no-fault {bs} {p} h a l (byte {p = q} k b n) = n (begins-upto bs (suc q) (suc p) (omega arith) (alive-begins _ a))
no-fault h a l (early b n) = omega arith

sound-20 : {bs : List ℕ} {N p : ℕ} → Sound bs p → Slip bs N p → 23 ≤ N
sound-20 s (form f) = absurd (no-fault s.within s.alive (omega arith) f)
sound-20 s (deep {s = u} x d) =
    let h = s.shallow in
    let e = ap depth (upto-at x) in
    let k = one-depth u in
    absurd (omega arith)
sound-20 s (range x d) =
    let h = subst InRange (sym (upto-at x)) s.in_range in
    absurd (omega arith)
sound-20 s (terms x d) = omega arith
sound-20 s (lines x d) = omega arith

fine-none : {bs : List ℕ} {N p : ℕ} → Fine bs p → Slip bs N p → ⊥
fine-none f (form x) = no-fault f.sound.within f.sound.alive (omega arith) x
fine-none f (deep x d) = let h = sound-20 f.sound (deep x d) in omega arith
fine-none f (range x d) = let h = sound-20 f.sound (range x d) in omega arith
fine-none {bs} {p = p} f (terms {s = u} x d) =
    let h = f.terms in
    let e = ap (λ (s : State). length (completed (digit_at bs (suc p)) s)) (upto-at x) in
    let k = ap length (one-completed (digit_at bs (suc p)) u) in
    omega arith
fine-none f (lines {s = u} x d) =
    let h = f.lines in
    let e = ap begun (upto-at x) in
    let k = one-begun u in
    omega arith

pub clean-start : (bs : List ℕ) → Clean bs 0
clean-start bs N q x = omega arith

pub clean-next : {bs : List ℕ} {p : ℕ} → Clean bs p → Fine bs p → Clean bs (suc p)
clean-next {bs} {p} c f N q x = go (dec_lt p q)
  where
    go : Dec (p < q) → suc p ≤ q
    go (yes h) = h
    go (no h) =
        let l = c N q x in
        let e : q ≡ p = omega arith in
        absurd (fine-none f (subst (Slip bs N) e x))

least : {bs : List ℕ} {N p : ℕ} → Slip bs N p → 20 ≤ N
least (form f) = omega arith
least (deep x d) = omega arith
least (range x d) = omega arith
least (terms x d) = omega arith
least (lines x d) = omega arith

-- the first slip is a fault in the form, a bracket, a number, a term or a line
pub first-form : {bs : List ℕ} {p : ℕ} → Clean bs p → Fault bs p → FirstSlip bs 20 p
first-form c f = record { slip = form f; earliest = c; lowest = λ N x. least x }

not-20 : {bs : List ℕ} {N p : ℕ} → p < length bs → Alive (at bs (suc p)) → Slip bs N p → 21 ≤ N
not-20 h a (form f) = absurd (no-fault h a (omega arith) f)
not-20 h a (deep x d) = omega arith
not-20 h a (range x d) = omega arith
not-20 h a (terms x d) = omega arith
not-20 h a (lines x d) = omega arith

pub first-deep : {bs : List ℕ} {p : ℕ} → Clean bs p → p < length bs → Alive (at bs (suc p)) → max_depth < depth (at bs (suc p)) → FirstSlip bs 21 p
first-deep {bs} {p} c h a d = record { slip = deep (at-upto bs p h a) d; earliest = c; lowest = λ N x. not-20 h a x }

not-21 : {bs : List ℕ} {N p : ℕ} → p < length bs → Alive (at bs (suc p)) → depth (at bs (suc p)) ≤ max_depth → Slip bs N p → 22 ≤ N
not-21 h a l (form f) = absurd (no-fault h a (omega arith) f)
not-21 h a l (deep {s = u} x d) =
    let e = ap depth (upto-at x) in
    let k = one-depth u in
    absurd (omega arith)
not-21 h a l (range x d) = omega arith
not-21 h a l (terms x d) = omega arith
not-21 h a l (lines x d) = omega arith

pub first_range : {bs : List ℕ} {p : ℕ} (C : Context) (K : Use) (n : ℕ) → Clean bs p → p < length bs → at bs (suc p) ≡ digits C K n →
    depth (digits C K n) ≤ max_depth → limit K < value K n → FirstSlip bs 22 p
first_range {bs} {p} C K n c h e d v =
    let a = subst Alive (sym e) tt in
    record {
      slip = range (subst (Upto bs p) e (at-upto bs p h a)) v;
      earliest = c;
      lowest = λ N x. not-21 h a (subst (λ (s : State). depth s ≤ max_depth) (sym e) d) x;
    }

pub first-terms : {bs : List ℕ} {p : ℕ} → Clean bs p → Sound bs p → max_terms < length (completed (digit_at bs (suc p)) (at bs (suc p))) → FirstSlip bs 23 p
first-terms {bs} {p} c s d = record { slip = terms (at-upto bs p s.within s.alive) d; earliest = c; lowest = λ N x. sound-20 s x }

pub first-lines : {bs : List ℕ} {p : ℕ} → Clean bs p → Sound bs p → max_entries < begun (at bs (suc p)) → FirstSlip bs 23 p
first-lines {bs} {p} c s d = record { slip = lines (at-upto bs p s.within s.alive) d; earliest = c; lowest = λ N x. sound-20 s x }

-- a text has one first slip at most
pub slip-unique : {bs : List ℕ} {N P M Q : ℕ} → FirstSlip bs N P → FirstSlip bs M Q → (N ≡ M) × (P ≡ Q)
slip-unique {bs} {N} {P} {M} {Q} x y =
    let a = x.earliest M Q y.slip in
    let b = y.earliest N P x.slip in
    let e : P ≡ Q = omega arith in
    let c = x.lowest M (subst (Slip bs M) (sym e) y.slip) in
    let d = y.lowest N (subst (Slip bs N) e x.slip) in
    (omega arith, e)
