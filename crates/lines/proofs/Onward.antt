-- From line to line: what the whole text comes to.
-- Assumes nothing.
use Prim.Native.Nat.{ℕ, suc, ◌-◌, ◌≤◌, ◌<◌}
use mathlib.Core.Path.{◌≡◌, refl, sym, ap, ◌∙◌, subst}
use mathlib.Core.Bool.{Bool, true, false, ◌||◌, ◌&&◌, false≢true}
use mathlib.Core.List.{List, [], ◌∷◌, ◌++◌}
use lib.Dec.{eqb, leb}
use lib.ListN.{length, get_or, take, length-append}
use lib.Seq.{take_all}
use native.Mathlib.Omega.{arith}
use borrow.Author.Tests.{leb-true}
use Rattle.std.specs.Prelude.{Ok, Err, IsErrAnd}
use Rattle.std.proofs.lemmas.Result.{err_from_is_err_and}
use Rattle.sheet.specs.Limits.{max_entries}
use Rattle.text.specs.Text.{Line}
use Rattle.text.specs.Print.{print}
use Rattle.text.specs.Print.Fault.{byte, early}
use Rattle.text.specs.Typed.{State, shown, Alive}
use Rattle.text.specs.Typed.Context.{on_left}
use Rattle.text.specs.Typed.Lead.{of_negative, of_variable, of_symbol}
use Rattle.text.specs.Typed.Use.{of_number}
use Rattle.text.specs.Typed.State.{wants, due, digits}
use Rattle.text.specs.Machine.{is_digit, step, start}
use Rattle.text.specs.Reach.{at}
use Rattle.text.proofs.Shown.{run-shown}
use Rattle.text.proofs.Place.{at-start, at_next, IsWhole, is_whole, fault-at}
use Rattle.slips.specs.declared.Slip.{Slip as Code-Slip}
use Rattle.slips.specs.Outcome.{Found}
use Rattle.slips.specs.Slips.{max_depth, depth, begun, Slip, FirstSlip}
use Rattle.slips.specs.Slips.Slip.{form, deep, range, terms, lines}
use Rattle.slips.proofs.Clean.{InRange, clean-start, first-form, first-lines}
use Rattle.lines.specs.Model.{FoundAs, line_at, begins_line}
use Rattle.lines.specs.Reading.{Holds, Whole, TextTold}
use Rattle.lines.proofs.Told.{Reading, LineEnd, LineTold, line-told}

-- l lines are read, up to i
pub record Far (bs : List ℕ) (i l : ℕ) (m : List ℕ) : Type 0 where
  pub lines : List Line
  pub count : length lines ≡ l
  pub first : l ≡ 0 → i ≡ 0
  pub reading : Reading bs lines i m

pub set_out : (bs m : List ℕ) → Holds [] m → Far bs 0 0 m
set_out bs m h = record {
  lines = [];
  count = refl;
  first = λ z. refl;
  reading = record { within = omega arith; same = at-start bs; clean = clean-start bs; few = omega arith; in_limits = tt; holds = h };
}

pub one_more : {bs : List ℕ} {i l e n : ℕ} {m new : List ℕ} (F : Far bs i l m) → LineEnd bs F.lines i new e n → Far bs e n new
one_more F E =
    let c = E.count in
    record {
      lines = F.lines ++ E.line ∷ [];
      count = length-append F.lines (E.line ∷ []) ∙ omega arith;
      first = λ z. absurd (omega arith);
      reading = E.reading;
    }

module _ {bs : List ℕ} {i l : ℕ} {m : List ℕ} (F : Far bs i l m) (h : i < length bs) where
  pub told : l < max_entries → let u = line_at bs i m l in LineTold bs F.lines i u.memory u.outcome
  told k =
      let c = F.count in
      subst (λ (x : ℕ). let u = line_at bs i m x in LineTold bs F.lines i u.memory u.outcome) c (line-told bs F.lines i m F.reading h (omega arith))

  pub ended : l < max_entries → {e n : ℕ} {new : List ℕ} → FoundAs (Ok (e, n)) new (line_at bs i m l) → LineEnd bs F.lines i new e n
  ended k {e} {n} {new} a =
      let u = line_at bs i m l in
      subst (λ (x : List ℕ). LineEnd bs F.lines i x e n) (sym a.memory-is) (subst (LineTold bs F.lines i u.memory) (sym a.outcome-is) (told k))

  pub next-line : l < max_entries → {e n : ℕ} {new : List ℕ} → FoundAs (Ok (e, n)) new (line_at bs i m l) → Far bs e n new
  next-line k a = one_more F (ended k a)

  pub slipped : l < max_entries → (r : Found) (slip : Code-Slip) {new : List ℕ} → FoundAs (Err slip) new (line_at bs i m l) → IsErrAnd r (λ e. e ≡ slip) → TextTold bs new r
  slipped k r slip {new} a x =
      let u = line_at bs i m l in
      let p = err_from_is_err_and r x in
      rw (p.1, p.2) (subst (LineTold bs F.lines i u.memory) (sym a.outcome-is) (told k))

  -- behind as many lines as may be
  behind : at bs (suc i) ≡ step (wants (on_left F.lines)) (get_or bs i 0)
  behind = at_next bs i h ∙ ap (λ (s : State). step s (get_or bs i 0)) F.reading.same

  full_at : (s : State) → step (wants (on_left F.lines)) (get_or bs i 0) ≡ s → Alive s → depth s ≤ max_depth → InRange s → max_entries < begun s → FirstSlip bs 23 i
  full_at s e a d r b = let q = behind ∙ e in first-lines F.reading.clean (record { within = h; alive = rw q a; shallow = rw q d; in_range = rw q r }) (rw q b)

  pub one-too-many : l ≡ max_entries → {t : Bool} {b : ℕ} → t ≡ begins_line b → b ≡ get_or bs i 0 → t ≡ true → FirstSlip bs 23 i
  unfolding step
  one-too-many k p q r = go (is_digit c) (eqb c 45) (eqb c 102) (eqb c 120) refl refl refl refl (sym (ap begins_line q) ∙ sym p ∙ r)
    where
      c : ℕ
      c = get_or bs i 0

      more : max_entries < suc (length F.lines)
      more = let n = F.count in omega arith

      both : (t u : Bool) → (t && u) ≡ true → u ≡ true
      both true u e = e
      both false u e = absurd (false≢true e)

      go : (d n f x : Bool) → is_digit c ≡ d → eqb c 45 ≡ n → eqb c 102 ≡ f → eqb c 120 ≡ x → (d || n || f || x) ≡ true → FirstSlip bs 23 i
      go true n f x d y z w e =
          full_at (digits (on_left F.lines) of_number (c - 48)) (rw d refl) tt (omega arith) (let u = leb-true c 57 (both (leb 48 c) (leb c 57) d) in omega arith) more
      go false true f x d y z w e = full_at (due (on_left F.lines) of_negative) (rw (d, y) refl) tt (omega arith) tt more
      go false false true x d y z w e = full_at (due (on_left F.lines) of_symbol) (rw (d, y, z) refl) tt (omega arith) tt more
      go false false false true d y z w e = full_at (due (on_left F.lines) of_variable) (rw (d, y, z, w) refl) tt (omega arith) tt more
      go false false false false d y z w e = absurd (false≢true e)

  pub begins-none : {t : Bool} {b : ℕ} → t ≡ begins_line b → b ≡ get_or bs i 0 → t ≡ false → FirstSlip bs 20 i
  unfolding step
  begins-none p q r = go (is_digit c) (eqb c 45) (eqb c 102) (eqb c 120) refl refl refl refl (sym (ap begins_line q) ∙ sym p ∙ r)
    where
      c : ℕ
      c = get_or bs i 0

      go : (d n f x : Bool) → is_digit c ≡ d → eqb c 45 ≡ n → eqb c 102 ≡ f → eqb c 120 ≡ x → (d || n || f || x) ≡ false → FirstSlip bs 20 i
      go true n f x d y z w e = absurd (false≢true (sym e))
      go false true f x d y z w e = absurd (false≢true (sym e))
      go false false true x d y z w e = absurd (false≢true (sym e))
      go false false false true d y z w e = absurd (false≢true (sym e))
      go false false false false d y z w e =
          first-form F.reading.clean (fault-at bs i F.reading.within (rw F.reading.same tt) (λ k. rw (F.reading.same, d, y, z, w) refl) (λ k u. absurd (omega arith)))

pub empty : {bs : List ℕ} {i l : ℕ} {m : List ℕ} → Far bs i l m → length bs ≤ i → l ≡ 0 → FirstSlip bs 20 0
empty {bs} F h z =
    let e = F.first z in
    first-form (clean-start bs) (fault-at bs 0 (omega arith) (rw (at-start bs) tt) (λ k. absurd (omega arith)) (λ k w. subst IsWhole (at-start bs) (is_whole w)))

no-slip : {bs : List ℕ} (ls : List Line) (P : ℕ) → length bs ≤ P → print ls ≡ bs → 1 ≤ length ls → (N : ℕ) → Slip bs N P → ⊥
no-slip ls P h e k N (form (byte x b n)) = omega arith
no-slip [] P h e k N (form (early b n)) = omega arith
no-slip (l ∷ ls) P h e k N (form (early b n)) = n (record { first = l; others = ls; same = e })
no-slip ls P h e k N (deep x d) = let w = x.within in omega arith
no-slip ls P h e k N (range x d) = let w = x.within in omega arith
no-slip ls P h e k N (terms x d) = let w = x.within in omega arith
no-slip ls P h e k N (lines x d) = let w = x.within in omega arith

pub whole : {bs : List ℕ} {i l : ℕ} {m : List ℕ} → Far bs i l m → length bs ≤ i → (l ≡ 0 → ⊥) → Whole bs m l
whole {bs} {i} {l} F h z =
    let R = F.reading in
    let c = F.count in
    let f = R.few in
    let some : 1 ≤ l = omega arith in
    let same : print F.lines ≡ bs = ap shown (sym R.same) ∙ run-shown start (take i bs) (rw R.same tt) ∙ take_all i bs h in
    record {
      lines = F.lines;
      same = same;
      count = c;
      some = some;
      few = omega arith;
      in_limits = R.in_limits;
      clean = λ N P s. let p = R.clean N P s in no-slip F.lines P (omega arith) same (omega arith) N s;
      holds = R.holds;
    }
