-- What the readers of terms and argument lists come to says of the text.
-- Assumes nothing.
use Prim.Native.Nat.{ℕ, zero, suc, ◌+◌, ◌*◌, ◌-◌, ◌%◌, ◌≤◌, ◌<◌}
use mathlib.Core.Path.{◌≡◌, refl, sym, ap, ◌∙◌, subst}
use mathlib.Core.Bool.{Bool, true, false, cond, ◌&&◌, false≢true}
use mathlib.Core.List.{List}
use lib.Dec.{eqb, leb}
use lib.IntN.{pos, negsuc}
use lib.ListN.{length, get_or, get_or-eq_default}
use native.Mathlib.Omega.{arith}
use native.Mathlib.Decide.{dec_lt}
use borrow.Author.Tests.{eqb-true, ne_eqb, leb-true}
use Rattle.big.specs.Big.{complement_of}
use Rattle.sheet.specs.Limits.{max_terms, max_entries}
use Rattle.text.specs.Text.{Sign, Plain, Arguments, Term}
use Rattle.text.specs.Text.Sign.{plus, minus}
use Rattle.text.specs.Text.Plain.{variable, apply}
use Rattle.text.specs.Text.Arguments.{alone, pair}
use Rattle.text.specs.Text.Term.{number, plain, shifted}
use Rattle.text.specs.Print.{sign_byte}
use Rattle.text.specs.Typed.{Context, Lead, Use, value, Alive}
use Rattle.text.specs.Typed.Context.{on_left, on_right, argument, second}
use Rattle.text.specs.Typed.Lead.{of_negative, of_variable, of_symbol, of_shift}
use Rattle.text.specs.Typed.Use.{of_number, led}
use Rattle.text.specs.Typed.State.{stopped, wants, due, digits, closed}
use Rattle.text.specs.Machine.{after, after_number, pick, is_digit, step}
use Rattle.text.specs.Reach.{at, Like, ended_plain, ended, Whole}
use Rattle.text.proofs.Through.{sign-step, end_step, like-wants, opens, closes}
use Rattle.text.proofs.Place.{at_next, IsWhole, is_whole, fault-at}
use Rattle.numbered.specs.Numbered.{Key, Entered, enter_key, enter_plain, enter_term, amount}
use Rattle.numbered.specs.Numbered.Key.{of_variable as variable_key, of_number as number_key, of_shift as shift_key, of_apply as apply_key, of_apply2 as apply_key2}
use Rattle.numbered.specs.Completed.{met_before, met_use, met_number}
use Rattle.numbered.specs.Within.{ShiftIn, PlainIn, TermIn}
use Rattle.slips.specs.Slips.{max_depth, limit, depth_of, line, FirstSlip}
use Rattle.slips.specs.Outcome.{Outcome}
use Rattle.slips.specs.Outcome.Outcome.{read, refused}
use Rattle.slips.proofs.Clean.{Clean, Sound, clean-next, first-form, first-deep, first-terms}
use Rattle.numeral.specs.Model as Numerals
use Rattle.numeral.proofs.Told.{least_of, NumberDue, NumberEnd, NumberTold, number-told}
use Rattle.met.specs.Model.{Told, entered}
use Rattle.met.specs.Keys.{kind_one, symbol_one, a_one, names, code_of, KeyIn, Table}
use Rattle.met.proofs.Entered.{entered-read, entered-full, enter-below}
use Rattle.terms.specs.Model as Model

-- a term is due at i, within d brackets more; all bytes before it are fine, and the memory holds the terms met
pub record TermDue (bs : List ℕ) (i : ℕ) (C : Context) (d : ℕ) (m : List ℕ) : Type 0 where
  pub within : i ≤ length bs
  pub alive : Alive (at bs i)
  pub short : length bs ≤ i → Whole (at bs i) → ⊥
  pub like : Like (at bs i) C
  pub other : i < length bs → is_digit (get_or bs i 0) ≡ false → eqb (get_or bs i 0) 45 ≡ false → eqb (get_or bs i 0) 102 ≡ false → eqb (get_or bs i 0) 120 ≡ false →
      step (at bs i) (get_or bs i 0) ≡ stopped
  pub clean : Clean bs i
  pub room : depth_of C + d ≡ max_depth
  pub lines : line C ≤ max_entries
  pub table : Table m (met_before C)

-- a number's term a ends before e
pub record ValueEnd (bs : List ℕ) (i : ℕ) (C : Context) (K : Use) (m : List ℕ) (key : ℕ → Key) (e a : ℕ) : Type 0 where
  pub n : ℕ
  pub begins : i < e
  pub within : e ≤ length bs
  pub same : at bs e ≡ digits C K n
  pub in_range : value K n ≤ limit K
  pub no_digit : is_digit (get_or bs e 0) ≡ false
  pub clean : Clean bs e
  pub number_is : a ≡ (enter_key (met_use C K) (key n)).last
  pub table : Table m (enter_key (met_use C K) (key n)).keys

abbrev pub ValueTold : List ℕ → ℕ → Context → Use → (ℕ → Key) → List ℕ → Outcome → Type 0
ValueTold bs i C K key m (read e a) = ValueEnd bs i C K m key e a
ValueTold bs i C K key m (refused N p) = FirstSlip bs N p

-- what a number's term is met as, and that its key is made so
pub record Keyed (C : Context) (K : Use) (base each : ℕ) (key : ℕ → Key) : Type 0 where
  pub enters : (n : ℕ) → met_number C K n ≡ (enter_key (met_use C K) (key n)).keys
  pub codes : (n : ℕ) → value K n ≤ limit K → base + value K n * each % 65536 ≡ code_of (key n)
  pub fits : (n : ℕ) → value K n ≤ limit K → KeyIn (key n)

module _ {bs : List ℕ} {i : ℕ} {C : Context} {K : Use} {m : List ℕ} {base each : ℕ} {key : ℕ → Key} (D : NumberDue bs i C K) (W : Keyed C K base each key) (T : Table m (met_use C K)) where
  value_read : (e v : ℕ) → NumberEnd bs i C K e v → let r = Model.valued m base each (read e v) in ValueTold bs i C K key r.memory r.outcome
  value_read e v E = go (dec_lt max_terms (length (enter_key (met_use C K) k).keys))
    where
      k : Key
      k = key E.n

      small : value K E.n ≤ limit K
      small = let a = E.is in let b = E.in_range in omega arith

      code_is : base + v * each % 65536 ≡ code_of k
      code_is = subst (λ (x : ℕ). base + x * each % 65536 ≡ code_of k) E.is (W.codes E.n small)

      Goal : Told → Type 0
      Goal r = ValueTold bs i C K key r.memory r.outcome

      so : (o : Outcome) → (entered m (code_of k) e).outcome ≡ o → ValueTold bs i C K key (entered m (code_of k) e).memory o → Goal (entered m (base + v * each % 65536) e)
      so o p g = subst (λ (c : ℕ). Goal (entered m c e)) (sym code_is) (subst (ValueTold bs i C K key (entered m (code_of k) e).memory) (sym p) g)

      go : Dec (max_terms < length (enter_key (met_use C K) k).keys) → Goal (entered m (base + v * each % 65536) e)
      go (yes h) =
          let l : e - 1 ≡ E.last = let q = E.ends in omega arith in
          so (refused 23 (e - 1)) (entered-full k e T (W.fits E.n small) h) (rw l (E.full (rw (W.enters E.n) h)))
      go (no h) =
          let X = entered-read k e T (W.fits E.n small) (omega arith) in
          let q = E.ends in
          let b = E.begins in
          let l = E.within in
          so (read e (enter_key (met_use C K) k).last) X.outcome-is (record {
            n = E.n;
            begins = omega arith;
            within = omega arith;
            same = E.same;
            in_range = small;
            no_digit = E.no_digit;
            clean = E.clean (rw (W.enters E.n) (omega arith));
            number_is = refl;
            table = X.table;
          })

  value-told : let r = Model.value_at bs i m (least_of K) (limit K) base each in ValueTold bs i C K key r.memory r.outcome
  unfolding Model.value_at
  value-told = go (Numerals.number bs i (least_of K) (limit K)) (number-told bs i C K D)
    where
      go : (o : Outcome) → NumberTold bs i C K o → let r = Model.valued m base each o in ValueTold bs i C K key r.memory r.outcome
      go (read e v) E = value_read e v E
      go (refused N p) F = F

-- what the keys of numbers are
back : (v : ℕ) → 1 ≤ v → v ≤ 32768 → v * 65535 % 65536 ≡ 65536 - v
back v h l = omega arith

forth : (v : ℕ) → v ≤ 32768 → v * 1 % 65536 ≡ v
forth v h = omega arith

number-keyed : (C : Context) → Keyed C of_number kind_one 1 (λ n. number_key (pos n))
unfolding complement_of
number-keyed C = record {
  enters = λ n. refl;
  codes = λ n l. rw (forth n (omega arith)) refl;
  fits = λ n l. l;
}

negative-keyed : (C : Context) → Keyed C (led of_negative) kind_one 65535 (λ n. number_key (negsuc n))
unfolding complement_of
negative-keyed C = record {
  enters = λ n. refl;
  codes = λ n l. rw (back (suc n) (omega arith) l) refl;
  fits = λ n l. omega arith;
}

variable-keyed : (C : Context) → Keyed C (led of_variable) names 1 (λ n. variable_key n)
variable-keyed C = record {
  enters = λ n. refl;
  codes = λ n l. rw (forth n (omega arith)) refl;
  fits = λ n l. l;
}

-- how a sign counts, in two bytes
abbrev each_of : Sign → ℕ
each_of plus = 1
each_of minus = 65535

shift-keyed : (C : Context) (p : Plain) (s : Sign) (a : ℕ) → a ≡ (enter_plain p (met_before C)).last → a < 256 → Keyed C (led (of_shift p s)) (2 * kind_one + a * a_one) (each_of s) (λ n. shift_key (enter_plain p (met_before C)).last (amount s n))
unfolding complement_of
shift-keyed C p s a e b = record {
  enters = λ n. refl;
  codes = code s;
  fits = fit s;
}
  where
    code : (s : Sign) (n : ℕ) → n ≤ limit (led (of_shift p s)) → 2 * kind_one + a * a_one + n * each_of s % 65536 ≡ code_of (shift_key (enter_plain p (met_before C)).last (amount s n))
    code plus n l = rw (forth n (omega arith), e) refl
    code minus zero l = rw e refl
    code minus (suc n) l = rw (back (suc n) (omega arith) l, e) refl

    fit : (s : Sign) (n : ℕ) → n ≤ limit (led (of_shift p s)) → KeyIn (shift_key (enter_plain p (met_before C)).last (amount s n))
    fit plus n l = (omega arith, l)
    fit minus zero l = (omega arith, omega arith)
    fit minus (suc n) l = (omega arith, omega arith)

-- a plain term a ends before e: a shift may come
pub record PlainEnd (bs : List ℕ) (i : ℕ) (C : Context) (m : List ℕ) (e a : ℕ) : Type 0 where
  pub body : Plain
  pub begins : i < e
  pub within : e ≤ length bs
  pub same : at bs e ≡ ended_plain C body
  pub digits : is_digit (get_or bs e 0) ≡ true → step (at bs e) (get_or bs e 0) ≡ pick (after C (plain body)) (get_or bs e 0)
  pub in_limits : PlainIn body
  pub clean : Clean bs e
  pub number_is : a ≡ (enter_plain body (met_before C)).last
  pub below : a < max_terms
  pub table : Table m (enter_plain body (met_before C)).keys

abbrev pub PlainTold : List ℕ → ℕ → Context → List ℕ → Outcome → Type 0
PlainTold bs i C m (read e a) = PlainEnd bs i C m e a
PlainTold bs i C m (refused N p) = FirstSlip bs N p

-- a term a ends before e: what comes isn't its own
pub record TermEnd (bs : List ℕ) (i : ℕ) (C : Context) (m : List ℕ) (e a : ℕ) : Type 0 where
  pub term : Term
  pub begins : i < e
  pub within : e ≤ length bs
  pub same : at bs e ≡ ended C term
  pub next : step (at bs e) (get_or bs e 0) ≡ pick (after C term) (get_or bs e 0)
  pub in_limits : TermIn term
  pub clean : Clean bs e
  pub number_is : a ≡ (enter_term term (met_before C)).last
  pub below : a < max_terms
  pub table : Table m (enter_term term (met_before C)).keys

abbrev pub TermTold : List ℕ → ℕ → Context → List ℕ → Outcome → Type 0
TermTold bs i C m (read e a) = TermEnd bs i C m e a
TermTold bs i C m (refused N p) = FirstSlip bs N p

-- a byte that isn't 0 stands within the text
pub there : (bs : List ℕ) (i c : ℕ) → get_or bs i 0 ≡ suc c → i < length bs
there bs i c e = go (dec_lt i (length bs))
  where
    go : Dec (i < length bs) → i < length bs
    go (yes h) = h
    go (no h) = let q = get_or-eq_default bs 0 {n = i} (omega arith) in absurd (omega arith)

-- what comes behind a number that no digit follows
number-ends : (C : Context) (K : Use) (n b : ℕ) → is_digit b ≡ false → step (digits C K n) b ≡ pick (after_number C K n) b
unfolding step
number-ends C K n b h = rw h refl

closed-digit : (C : Context) (f : ℕ) (ts : Arguments) (b : ℕ) → is_digit b ≡ true → step (closed C f ts) b ≡ stopped
unfolding step
closed-digit C f ts b h = rw h refl

symbol-none : (C : Context) (f b : ℕ) → is_digit b ≡ false → eqb b 40 ≡ false → step (digits C (led of_symbol) f) b ≡ stopped
unfolding step
symbol-none C f b h g = rw (h, g) refl

-- no digit comes behind a term
no-digit-after : (C : Context) (t : Term) (b : ℕ) → is_digit b ≡ true → stopped ≡ pick (after C t) b
no-digit-after C t b h = go C (both (leb 48 b) (leb b 57) h)
  where
    both : (t u : Bool) → (t && u) ≡ true → (t ≡ true) × (u ≡ true)
    both true true e = (refl, refl)
    both true false e = absurd (false≢true e)
    both false u e = absurd (false≢true e)

    go : (C : Context) → (leb 48 b ≡ true) × (leb b 57 ≡ true) → stopped ≡ pick (after C t) b
    go (on_left ls) q =
        let x = leb-true 48 b q.0 in
        let y = leb-true b 57 q.1 in
        rw (ne_eqb b 33 (λ e. omega arith), ne_eqb b 60 (λ e. omega arith), ne_eqb b 61 (λ e. omega arith)) refl
    go (on_right ls u r) q = let x = leb-true 48 b q.0 in rw (ne_eqb b 10 (λ e. omega arith)) refl
    go (argument f C) q = let x = leb-true 48 b q.0 in rw (ne_eqb b 44 (λ e. omega arith), ne_eqb b 41 (λ e. omega arith)) refl
    go (second f u C) q = let x = leb-true 48 b q.0 in rw (ne_eqb b 41 (λ e. omega arith)) refl

module _ (bs : List ℕ) (i : ℕ) (C : Context) (shallow : depth_of C ≤ max_depth) (lines : line C ≤ max_entries) where
  -- behind the letter or the sign of a number
  lead-due : (L : Lead) (q : ℕ) → q < length bs → at bs (suc q) ≡ due C L → Clean bs q → length (met_use C (led L)) ≤ max_terms → NumberDue bs (suc q) C (led L)
  unfolding step
  lead-due L q l e c f = record {
    within = l;
    alive = rw e tt;
    short = λ k w. subst IsWhole e (is_whole w);
    begins = λ d. rw e refl;
    other = λ k h. rw (e, h) refl;
    clean = clean-next c (record { sound = record { within = l; alive = rw e tt; shallow = rw e shallow; in_range = rw e tt }; terms = rw e f; lines = rw e lines });
    shallow = shallow;
    few = f;
    lines = lines;
  }

  -- a number that is a term by itself, or ends one
  ends : (K : Use) (t : ℕ → Term) → ((n : ℕ) → ended C (t n) ≡ digits C K n) → ((n b : ℕ) → is_digit b ≡ false → step (digits C K n) b ≡ pick (after C (t n)) b) →
      (key : ℕ → Key) → ((n : ℕ) → enter_term (t n) (met_before C) ≡ enter_key (met_use C K) (key n)) → ((n : ℕ) → value K n ≤ limit K → TermIn (t n)) →
      (j : ℕ) (m : List ℕ) (o : Outcome) → i ≤ j → ValueTold bs j C K key m o → TermTold bs i C m o
  ends K t e n key k r j m (read z a) l E =
      let b = E.begins in
      let x = enter-below (met_use C K) (key E.n) in
      let y = E.number_is in
      let w = E.table.few in
      record {
        term = t E.n;
        begins = omega arith;
        within = E.within;
        same = E.same ∙ sym (e E.n);
        next = rw E.same (n E.n (get_or bs z 0) E.no_digit);
        in_limits = r E.n E.in_range;
        clean = E.clean;
        number_is = E.number_is ∙ ap (λ (q : Entered). q.last) (sym (k E.n));
        below = omega arith;
        table = subst (Table m) (ap (λ (q : Entered). q.keys) (sym (k E.n))) E.table;
      }
  ends K t e n key k r j m (refused N p) l F = F

  -- a shift, by its sign
  sign-told : {m : List ℕ} {e a : ℕ} (E : PlainEnd bs i C m e a) (s : Sign) → get_or bs e 0 ≡ sign_byte s →
      let r = Model.value_at bs (suc e) m (least_of (led (of_shift E.body s))) (limit (led (of_shift E.body s))) (2 * kind_one + a * a_one) (each_of s) in TermTold bs i C r.memory r.outcome
  sign-told {m} {e} {a} E s g =
      let l : e < length bs = within-sign s g in
      let q : at bs (suc e) ≡ due C (of_shift E.body s) = at_next bs e l ∙ rw (g, E.same) (sign-step C E.body s) in
      let b = E.begins in
      let w = E.below in
      let r = Model.value_at bs (suc e) m (least_of (led (of_shift E.body s))) (limit (led (of_shift E.body s))) (2 * kind_one + a * a_one) (each_of s) in
      ends (led (of_shift E.body s)) (shifted E.body s) (λ n. refl) (number-ends C (led (of_shift E.body s))) _ (λ n. refl) (λ n r. (E.in_limits, in-range s n r)) (suc e) r.memory r.outcome (omega arith)
      (value-told (lead-due (of_shift E.body s) e l q E.clean E.table.few) (shift-keyed C E.body s a E.number_is (omega arith)) E.table)
    where
      within-sign : (s : Sign) → get_or bs e 0 ≡ sign_byte s → e < length bs
      within-sign plus g = there bs e 42 g
      within-sign minus g = there bs e 44 g

      in-range : (s : Sign) (n : ℕ) → n ≤ limit (led (of_shift E.body s)) → ShiftIn s n
      in-range plus n r = r
      in-range minus n r = r

  -- behind a plain term, its shift or none
  shifted-told : (m : List ℕ) (o : Outcome) → PlainTold bs i C m o → let r = Model.shifted_at bs m o in TermTold bs i C r.memory r.outcome
  shifted-told m (refused N p) F = F
  shifted-told m (read e a) E = go (eqb b 43) refl
    where
      b : ℕ
      b = get_or bs e 0

      none : eqb b 43 ≡ false → eqb b 45 ≡ false → TermEnd bs i C m e a
      none g h = record {
        term = plain E.body;
        begins = E.begins;
        within = E.within;
        same = E.same;
        next = go (is_digit b) refl;
        in_limits = E.in_limits;
        clean = E.clean;
        number_is = E.number_is;
        below = E.below;
        table = E.table;
      }
        where
          go : (t : Bool) → is_digit b ≡ t → step (at bs e) b ≡ pick (after C (plain E.body)) b
          go true x = E.digits x
          go false x = rw E.same (end_step C (plain E.body) b (record { no_digit = x; no_plus = g; no_minus = h }))

      minus-told : (t : Bool) → eqb b 45 ≡ t → eqb b 43 ≡ false →
          let r = cond t (Model.value_at bs (suc e) m 0 32768 (2 * kind_one + a * a_one) 65535) (record { memory = m; outcome = read e a }) in TermTold bs i C r.memory r.outcome
      minus-told true h g = sign-told E minus (eqb-true b 45 h)
      minus-told false h g = none g h

      go : (t : Bool) → eqb b 43 ≡ t →
          let r = cond t (Model.value_at bs (suc e) m 0 32767 (2 * kind_one + a * a_one) 1) (cond (eqb b 45) (Model.value_at bs (suc e) m 0 32768 (2 * kind_one + a * a_one) 65535) (record { memory = m; outcome = read e a })) in TermTold bs i C r.memory r.outcome
      go true g = sign-told E plus (eqb-true b 43 g)
      go false g = minus-told (eqb b 45) refl g

-- behind the digits of a symbol
pub record ListDue (bs : List ℕ) (i : ℕ) (C : Context) (d f : ℕ) (m : List ℕ) : Type 0 where
  pub within : i ≤ length bs
  pub same : at bs i ≡ digits C (led of_symbol) f
  pub no_digit : is_digit (get_or bs i 0) ≡ false
  pub small : f ≤ 255
  pub clean : Clean bs i
  pub room : depth_of C + d ≡ max_depth
  pub lines : line C ≤ max_entries
  pub table : Table m (met_before C)

-- a reader of argument lists tells what it should
abbrev ListTold : List ℕ → (d : ℕ) → (ℕ → ℕ → List ℕ → Told) → Type 0
ListTold bs d list = (i f : ℕ) (C : Context) (m : List ℕ) → ListDue bs i C d f m → PlainTold bs i C (list i f m).memory (list i f m).outcome

plain-from : (bs : List ℕ) (i j : ℕ) (C : Context) (m : List ℕ) (o : Outcome) → i ≤ j → PlainTold bs j C m o → PlainTold bs i C m o
plain-from bs i j C m (refused N p) l F = F
plain-from bs i j C m (read e a) l E =
    let b = E.begins in
    record {
      body = E.body;
      begins = omega arith;
      within = E.within;
      same = E.same;
      digits = E.digits;
      in_limits = E.in_limits;
      clean = E.clean;
      number_is = E.number_is;
      below = E.below;
      table = E.table;
    }

module _ (bs : List ℕ) (d : ℕ) (list : ℕ → ℕ → List ℕ → Told) (told : ListTold bs d list) (i : ℕ) (C : Context) (m : List ℕ) (D : TermDue bs i C d m) where
  abbrev opening : ℕ
  opening = get_or bs i 0

  shallow : depth_of C ≤ max_depth
  shallow = let r = D.room in omega arith

  -- behind the first byte, which leads a number
  lead : (L : Lead) (c : ℕ) → opening ≡ suc c → step (at bs i) (suc c) ≡ due C L → length (met_use C (led L)) ≤ max_terms → NumberDue bs (suc i) C (led L)
  lead L c e s f = let l = there bs i c e in lead-due bs i C shallow D.lines L i l (at_next bs i l ∙ rw e s) D.clean f

  applied-told : eqb opening 102 ≡ true → let r = Model.applied_at list bs m (Numerals.number bs (suc i) 0 255) in TermTold bs i C r.memory r.outcome
  unfolding Model.shifted
  applied-told h = go (Numerals.number bs (suc i) 0 255) (number-told bs (suc i) C (led of_symbol) (lead of_symbol 101 (eqb-true opening 102 h) D.like.symbol D.table.few))
    where
      go : (o : Outcome) → NumberTold bs (suc i) C (led of_symbol) o → let r = Model.applied_at list bs m o in TermTold bs i C r.memory r.outcome
      go (refused N p) F = F
      go (read e f) E =
          let x = E.ends in
          let y = E.begins in
          let z = E.within in
          let q = list e f m in
          shifted-told bs i C shallow D.lines q.memory q.outcome (plain-from bs i e C q.memory q.outcome (omega arith) (told e f C m (record {
            within = omega arith;
            same = rw (← E.is) E.same;
            no_digit = E.no_digit;
            small = E.in_range;
            clean = E.clean D.table.few;
            room = D.room;
            lines = D.lines;
            table = D.table;
          })))

  variable-plain : (m : List ℕ) (o : Outcome) → ValueTold bs (suc i) C (led of_variable) (λ n. variable_key n) m o → PlainTold bs i C m o
  variable-plain m (refused N p) F = F
  variable-plain m (read e a) E =
      let x = E.begins in
      let y = E.number_is in
      let z = E.table.few in
      let w = enter-below (met_before C) (variable_key E.n) in
      record {
        body = variable E.n;
        begins = omega arith;
        within = E.within;
        same = E.same;
        digits = λ h. absurd (false≢true (sym E.no_digit ∙ h));
        in_limits = E.in_range;
        clean = E.clean;
        number_is = E.number_is;
        below = omega arith;
        table = E.table;
      }

  variable-told : eqb opening 120 ≡ true → let r = Model.shifted bs (Model.value_at bs (suc i) m 0 99 names 1) in TermTold bs i C r.memory r.outcome
  unfolding Model.shifted
  variable-told h =
      let q = Model.value_at bs (suc i) m 0 99 names 1 in
      shifted-told bs i C shallow D.lines q.memory q.outcome
      (variable-plain q.memory q.outcome (value-told (lead of_variable 119 (eqb-true opening 120 h) D.like.letter D.table.few) (variable-keyed C) D.table))

  negative-told : eqb opening 45 ≡ true → let r = Model.value_at bs (suc i) m 1 32768 kind_one 65535 in TermTold bs i C r.memory r.outcome
  negative-told h =
      let r = Model.value_at bs (suc i) m 1 32768 kind_one 65535 in
      ends bs i C shallow D.lines (led of_negative) (λ n. number (negsuc n)) (λ n. refl) (number-ends C (led of_negative)) _ (λ n. refl) (λ n r. omega arith) (suc i) r.memory r.outcome (omega arith)
      (value-told (lead of_negative 44 (eqb-true opening 45 h) D.like.negative D.table.few) (negative-keyed C) D.table)

  number-told-here : eqb opening 102 ≡ false → eqb opening 120 ≡ false → eqb opening 45 ≡ false → let r = Model.value_at bs i m 0 32767 kind_one 1 in TermTold bs i C r.memory r.outcome
  number-told-here f x n =
      let r = Model.value_at bs i m 0 32767 kind_one 1 in
      ends bs i C shallow D.lines of_number (λ n. number (pos n)) (λ n. refl) (number-ends C of_number) _ (λ n. refl) (λ n r. r) i r.memory r.outcome (omega arith)
      (value-told (record {
        within = D.within;
        alive = D.alive;
        short = D.short;
        begins = D.like.digit;
        other = λ l h. D.other l h n f x;
        clean = D.clean;
        shallow = shallow;
        few = D.table.few;
        lines = D.lines;
      }) (number-keyed C) D.table)

  -- a term, by its first byte
  pub term_told : let r = Model.term_at list bs i m in TermTold bs i C r.memory r.outcome
  term_told = go (eqb opening 102) (eqb opening 120) (eqb opening 45) refl refl refl
    where
      go : (f x n : Bool) → eqb opening 102 ≡ f → eqb opening 120 ≡ x → eqb opening 45 ≡ n →
          let r = cond f (Model.applied_at list bs m (Numerals.number bs (suc i) 0 255)) (cond x (Model.shifted bs (Model.value_at bs (suc i) m 0 99 names 1)) (cond n (Model.value_at bs (suc i) m 1 32768 kind_one 65535) (Model.value_at bs i m 0 32767 kind_one 1))) in
          TermTold bs i C r.memory r.outcome
      go true x n f g h = applied-told f
      go false true n f g h = variable-told g
      go false false true f g h = negative-told h
      go false false false f g h = number-told-here f g h

-- a closing bracket, behind an argument list
module _ {bs : List ℕ} {i : ℕ} {C : Context} (f : ℕ) (ts : Arguments) (shallow : depth_of C ≤ max_depth) (lines : line C ≤ max_entries) where
  closed-told : {m : List ℕ} {xs : List Key} (k : Key) (e key : ℕ) → i ≤ e → e ≤ length bs → Alive (at bs e) → (Whole (at bs e) → ⊥) → step (at bs e) 41 ≡ closed C f ts →
      (eqb (get_or bs e 0) 41 ≡ false → step (at bs e) (get_or bs e 0) ≡ stopped) → Clean bs e → Table m xs → KeyIn k → key ≡ code_of k →
      enter_plain (apply f ts) (met_before C) ≡ enter_key xs k → PlainIn (apply f ts) →
      let r = Model.closed_at bs e m key in PlainTold bs i C r.memory r.outcome
  unfolding Model.closed_at
  closed-told {m} {xs} k e key x l a w s n c T I q p P = go (eqb (get_or bs e 0) 41) refl
    where
      Goal : Told → Type 0
      Goal r = PlainTold bs i C r.memory r.outcome

      go : (t : Bool) → eqb (get_or bs e 0) 41 ≡ t → Goal (cond t (entered m key (suc e)) (Model.sent_back m 20 e))
      go false h = first-form c (fault-at bs e l a (λ k. n h) (λ k. w))
      go true h = subst (λ (c : ℕ). Goal (entered m c (suc e))) (sym q) (by (dec_lt max_terms (length (enter_key xs k).keys)))
        where
          is : get_or bs e 0 ≡ 41
          is = eqb-true (get_or bs e 0) 41 h

          h0 : e < length bs
          h0 = there bs e 40 is

          behind : at bs (suc e) ≡ closed C f ts
          behind = at_next bs e h0 ∙ rw is s

          sound : Sound bs e
          sound = record { within = h0; alive = rw behind tt; shallow = rw behind shallow; in_range = rw behind tt }

          count : length (enter_plain (apply f ts) (met_before C)).keys ≡ length (enter_key xs k).keys
          count = ap (λ (q : Entered). length q.keys) p

          so : (o : Outcome) → (entered m (code_of k) (suc e)).outcome ≡ o → PlainTold bs i C (entered m (code_of k) (suc e)).memory o → Goal (entered m (code_of k) (suc e))
          so o p g = subst (PlainTold bs i C (entered m (code_of k) (suc e)).memory) (sym p) g

          by : Dec (max_terms < length (enter_key xs k).keys) → Goal (entered m (code_of k) (suc e))
          by (yes y) =
              let l : suc e - 1 ≡ e = omega arith in
              so (refused 23 (suc e - 1)) (entered-full k (suc e) T I y) (rw l (first-terms c sound (rw behind (subst (λ (n : ℕ). max_terms < n) (sym count) y))))
          by (no y) =
              let X = entered-read k (suc e) T I (omega arith) in
              let z = enter-below xs k in
              so (read (suc e) (enter_key xs k).last) X.outcome-is (record {
                body = apply f ts;
                begins = omega arith;
                within = h0;
                same = behind;
                digits = λ x. rw behind (closed-digit C f ts _ x ∙ no-digit-after C (plain (apply f ts)) _ x);
                in_limits = P;
                clean = clean-next c (record { sound = sound; terms = rw behind (omega (arith, count)); lines = rw behind lines });
                number_is = ap (λ (q : Entered). q.last) (sym p);
                below = omega arith;
                table = subst (Table _) (ap (λ (q : Entered). q.keys) (sym p)) X.table;
              })

-- behind a term the text goes on, and isn't whole
pub ended-alive : (C : Context) (t : Term) → Alive (ended C t)
ended-alive C (number (pos n)) = tt
ended-alive C (number (negsuc n)) = tt
ended-alive C (plain (variable n)) = tt
ended-alive C (plain (apply f ts)) = tt
ended-alive C (shifted p s n) = tt

pub ended-short : (C : Context) (t : Term) → IsWhole (ended C t) → ⊥
ended-short C (number (pos n)) w = w
ended-short C (number (negsuc n)) w = w
ended-short C (plain (variable n)) w = w
ended-short C (plain (apply f ts)) w = w
ended-short C (shifted p s n) w = w

-- a term is due where the machine wants one
pub wants-due : {bs : List ℕ} {C : Context} {d : ℕ} {m : List ℕ} (q : ℕ) → q < length bs → at bs (suc q) ≡ wants C → (IsWhole (wants C) → ⊥) → Clean bs (suc q) →
    depth_of C + d ≡ max_depth → line C ≤ max_entries → Table m (met_before C) → TermDue bs (suc q) C d m
unfolding step
wants-due {C = C} q l e w c r n T = record {
  within = l;
  alive = rw e tt;
  short = λ k x. w (subst IsWhole e (is_whole x));
  like = rw e (like-wants C);
  other = λ k g x y z. rw (e, g, x, y, z) refl;
  clean = c;
  room = r;
  lines = n;
  table = T;
}

module _ (bs : List ℕ) (d : ℕ) (list : ℕ → ℕ → List ℕ → Told) (told : ListTold bs d list) (i f : ℕ) (C : Context) (small : f ≤ 255)
    (room : suc (depth_of C) + d ≡ max_depth) (lines : line C ≤ max_entries) where
  abbrev reader : ℕ → List ℕ → Told
  reader = Model.term_at list bs

  shallow-here : depth_of C ≤ max_depth
  shallow-here = omega arith

  -- behind the second argument
  second-told : (t : Term) (a : ℕ) → TermIn t → a ≡ (enter_term t (met_before C)).last → a < max_terms → (m : List ℕ) (o : Outcome) {j : ℕ} → i ≤ j → TermTold bs j (second f t C) m o →
      let r = Model.second_at bs m f a o in PlainTold bs i C r.memory r.outcome
  second-told t a I q x m (refused N p) l F = F
  second-told t a I q x m (read e b) l E =
      let k = E.begins in
      let y = E.below in
      closed-told f (pair t E.term) shallow-here lines (apply_key2 f (enter_term t (met_before C)).last (enter_term E.term (enter_term t (met_before C)).keys).last) e _ (omega arith) E.within (rw E.same (ended-alive (second f t C) E.term))
      (λ w. ended-short (second f t C) E.term (subst IsWhole E.same (is_whole w))) (rw E.same (closes (pair t E.term) f C))
      (λ h. E.next ∙ rw h refl) E.clean E.table (omega arith, omega arith, omega arith) (rw (q, E.number_is) refl) refl (small, (I, E.in_limits))

  first-told : (m : List ℕ) (o : Outcome) → TermTold bs (suc i) (argument f C) m o → let r = Model.first_at reader bs m f o in PlainTold bs i C r.memory r.outcome
  first-told m (refused N p) F = F
  first-told m (read e a) E = go (eqb b 44) refl
    where
      b : ℕ
      b = get_or bs e 0

      go : (t : Bool) → eqb b 44 ≡ t →
          let r = cond t (let t = reader (suc e) m in Model.second_at bs t.memory f a t.outcome) (Model.closed_at bs e m (3 * kind_one + f * symbol_one + a * a_one)) in PlainTold bs i C r.memory r.outcome
      go true h =
          let l : e < length bs = there bs e 43 (eqb-true b 44 h) in
          let q : at bs (suc e) ≡ wants (second f E.term C) = at_next bs e l ∙ E.next ∙ rw h refl in
          let k = E.begins in
          let r = reader (suc e) m in
          second-told E.term a E.in_limits E.number_is E.below r.memory r.outcome (omega arith)
          (term_told bs d list told (suc e) (second f E.term C) m
          (wants-due e l q (λ w. w)
          (clean-next E.clean (record { sound = record { within = l; alive = rw q tt; shallow = rw q (omega arith); in_range = rw q tt }; terms = rw q E.table.few; lines = rw q lines }))
          room lines E.table))
      go false h =
          let k = E.begins in
          let y = E.below in
          closed-told f (alone E.term) shallow-here lines (apply_key f (enter_term E.term (met_before C)).last) e _ (omega arith) E.within (rw E.same (ended-alive (argument f C) E.term))
          (λ w. ended-short (argument f C) E.term (subst IsWhole E.same (is_whole w))) (rw E.same (closes (alone E.term) f C))
          (λ x. E.next ∙ rw (h, x) refl) E.clean E.table (omega arith, omega arith) (rw E.number_is refl) refl (small, E.in_limits)

module _ {bs : List ℕ} {i f : ℕ} {C : Context} {d : ℕ} {m : List ℕ} (D : ListDue bs i C d f m) where
  -- no bracket stands behind a symbol
  no-bracket : eqb (get_or bs i 0) 40 ≡ false → FirstSlip bs 20 i
  no-bracket h =
      first-form D.clean (fault-at bs i D.within (rw D.same tt) (λ l. rw D.same (symbol-none C f (get_or bs i 0) D.no_digit h))
      (λ l w. subst IsWhole D.same (is_whole w)))

  bracket : eqb (get_or bs i 0) 40 ≡ true → (i < length bs) × (at bs (suc i) ≡ wants (argument f C))
  bracket h =
      let e = eqb-true (get_or bs i 0) 40 h in
      let l = there bs i 39 e in
      (l, at_next bs i l ∙ rw (e, D.same) (opens C f))

too-deep : (bs : List ℕ) → ListTold bs 0 (Model.arguments 0 bs)
unfolding Model.arguments
too-deep bs i f C m D = go (eqb (get_or bs i 0) 40) refl
  where
    go : (t : Bool) → eqb (get_or bs i 0) 40 ≡ t → let r = cond t (Model.sent_back m 21 i) (Model.sent_back m 20 i) in PlainTold bs i C r.memory r.outcome
    go true h = let q = bracket D h in let r = D.room in first-deep D.clean q.0 (rw q.1 tt) (rw q.1 (omega arith))
    go false h = no-bracket D h

deeper : (bs : List ℕ) (d : ℕ) → ListTold bs d (Model.arguments d bs) → ListTold bs (suc d) (Model.arguments (suc d) bs)
unfolding Model.arguments
deeper bs d told i f C m D = go (eqb (get_or bs i 0) 40) refl
  where
    reader : ℕ → List ℕ → Told
    reader = Model.term_at (Model.arguments d bs) bs

    go : (t : Bool) → eqb (get_or bs i 0) 40 ≡ t → let r = cond t (Model.list_at reader bs i f m) (Model.sent_back m 20 i) in PlainTold bs i C r.memory r.outcome
    go false h = no-bracket D h
    go true h =
        let q = bracket D h in
        let l = q.0 in
        let r = D.room in
        let s = reader (suc i) m in
        first-told bs d (Model.arguments d bs) told i f C D.small (omega arith) D.lines s.memory s.outcome
        (term_told bs d (Model.arguments d bs) told (suc i) (argument f C) m
        (wants-due i l q.1 (λ w. w)
        (clean-next D.clean (record {
          sound = record { within = l; alive = rw q.1 tt; shallow = rw q.1 (omega arith); in_range = rw q.1 tt };
          terms = rw q.1 D.table.few;
          lines = rw q.1 D.lines;
        }))
        (omega arith) D.lines D.table))

-- an argument list, within so many brackets more
pub arguments-told : (bs : List ℕ) (d : ℕ) → ListTold bs d (Model.arguments d bs)
arguments-told bs zero = too-deep bs
arguments-told bs (suc d) = deeper bs d (arguments-told bs d)

-- a term, within so many brackets more
pub reads-term : {bs : List ℕ} {i : ℕ} {C : Context} {d : ℕ} {m : List ℕ} → TermDue bs i C d m → let r = Model.term d bs i m in TermTold bs i C r.memory r.outcome
reads-term {bs} {i} {C} {d} {m} D = term_told bs d (Model.arguments d bs) (arguments-told bs d) i C m D
