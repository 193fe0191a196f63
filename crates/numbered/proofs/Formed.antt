-- The sheet of a text whose numbers are within their limits is well-formed, and its fields fit their bytes.
-- Assumes nothing.
use Prim.Native.Nat.{ℕ, zero, suc, ◌≤◌, ◌<◌}
use mathlib.Core.Path.{◌≡◌, refl, ap}
use mathlib.Core.Logic.{◌⊎◌, inl, inr}
use mathlib.Core.Bool.{Bool, true, false, cond}
use mathlib.Core.List.{List, [], ◌∷◌, ◌++◌}
use lib.Dec.{ltb}
use lib.ListN.{length, get_or, length-append, length-map, get_or-append, get_or-map}
use lib.Seq.{get_or-append_seam}
use native.Mathlib.Omega.{arith}
use native.Mathlib.Nat.{eq-or-lt_of_le}
use borrow.Author.Tests.{ltb-true}
use Rattle.sheet.specs.Limits.{max_terms, max_entries}
use Rattle.sheet.specs.Sheet.{unknown, Entry, count_terms, count_entries, term_at, entry_at, ArgumentsBelow, of-unknown, of_number, of_shift, of-apply, of-apply2, WellFormed}
use Rattle.text.specs.Text.{Sign, Plain, Arguments, Term, Line}
use Rattle.text.specs.Text.Sign.{plus, minus}
use Rattle.text.specs.Text.Plain.{variable, apply}
use Rattle.text.specs.Text.Arguments.{alone, pair}
use Rattle.text.specs.Text.Term.{number, plain, shifted}
use Rattle.written.specs.Fields.{WholeIn, EachIn, EntryIn, FieldsIn}
use Rattle.written.specs.Fields as Fields
use Rattle.written.proofs.Row.{each_at, each_of}
use Rattle.numbered.specs.Numbered.{Key, code, same_list, find, Entered, enter_key, amount, enter_plain, enter_applied, enter_term, Noted, enter_lines, record_of, sheet_of}
use Rattle.numbered.specs.Numbered.Key.{of_variable, of_number, of_shift, of_apply, of_apply2}
use Rattle.numbered.specs.Within.{ShiftIn, PlainIn, ArgumentsIn, TermIn, LinesIn}

-- a term that may have the number i
abbrev Fits : ℕ → Key → Type 0
Fits i k = ArgumentsBelow i (record_of k) × Fields.TermIn (record_of k)

-- each key fits its place; of_variable 0 is never reached
record Good (xs : List Key) : Type 0 where
  each : (i : ℕ) → i < length xs → Fits i (get_or xs i (of_variable 0))

good_more : (xs : List Key) (k : Key) → Good xs → Fits (length xs) k → Good (xs ++ k ∷ [])
good_more xs k g h = record { each = λ i l. go i (eq-or-lt_of_le (omega (arith, length-append xs (k ∷ []), l))) }
  where
    go : (i : ℕ) → (i ≡ length xs) ⊎ (i < length xs) → Fits i (get_or (xs ++ k ∷ []) i (of_variable 0))
    go i (inl e) = rw (e, get_or-append_seam xs k [] (of_variable 0)) h
    go i (inr l) = rw (get_or-append xs (k ∷ []) (of_variable 0) i l) (g.each i l)

-- a term completed behind the terms xs: each fits its place, and its number is among theirs
record Reached (xs : List Key) (e : Entered) : Type 0 where
  good : Good e.keys
  last : e.last < length e.keys
  more : length xs ≤ length e.keys

onward : {xs : List Key} {a b : Entered} → Reached xs a → Reached a.keys b → Reached xs b
onward p q = record { good = q.good; last = q.last; more = omega arith }

find-bound : (xs : List Key) (k : Key) → find xs k ≤ length xs
find-bound [] k = omega arith
find-bound (x ∷ xs) k = go (same_list (code x) (code k)) (find-bound xs k)
  where
    go : (t : Bool) → find xs k ≤ length xs → cond t zero (suc (find xs k)) ≤ suc (length xs)
    go true h = omega arith
    go false h = omega arith

key-reached : (xs : List Key) (k : Key) → Good xs → Fits (length xs) k → Reached xs (enter_key xs k)
key-reached xs k g h = go (ltb (find xs k) (length xs)) refl
  where
    go : (t : Bool) → ltb (find xs k) (length xs) ≡ t → Reached xs (record { keys = cond t xs (xs ++ k ∷ []); last = find xs k })
    go true e = record { good = g; last = ltb-true _ _ e; more = omega arith }
    go false e =
        let l = length-append xs (k ∷ []) in
        record { good = good_more xs k g h; last = omega (arith, find-bound xs k); more = omega arith }

amount-in : (s : Sign) (n : ℕ) → ShiftIn s n → WholeIn (amount s n)
amount-in plus n h = h
amount-in minus zero h = omega arith
amount-in minus (suc n) h = omega arith

mutual
  plain-reached : (p : Plain) (xs : List Key) → Good xs → PlainIn p → Reached xs (enter_plain p xs)
  plain-reached (variable n) xs g h = key-reached xs (of_variable n) g (of-unknown, tt)
  plain-reached (apply f ts) xs g h = applied-reached f ts xs g h.0 h.1

  applied-reached : (f : ℕ) (ts : Arguments) (xs : List Key) → Good xs → f ≤ 255 → ArgumentsIn ts → Reached xs (enter_applied f ts xs)
  applied-reached f (alone t) xs g l h =
      let a = term-reached t xs g h in onward a (key-reached _ (of_apply f _) a.good (of-apply a.last, omega arith))
  applied-reached f (pair t u) xs g l h =
      let a = term-reached t xs g h.0 in
      let b = term-reached u _ a.good h.1 in
      onward a (onward b (key-reached _ (of_apply2 f _ _) b.good (of-apply2 (omega arith) b.last, omega arith)))

  term-reached : (t : Term) (xs : List Key) → Good xs → TermIn t → Reached xs (enter_term t xs)
  term-reached (number c) xs g h = key-reached xs (of_number c) g (of_number, h)
  term-reached (plain p) xs g h = plain-reached p xs g h
  term-reached (shifted p s n) xs g h =
      let a = plain-reached p xs g h.0 in onward a (key-reached _ (of_shift _ (amount s n)) a.good (of_shift a.last, amount-in s n h.1))

-- an entry that a sheet of T terms may have
abbrev Stands : ℕ → Entry → Type 0
Stands T e = (e.a < T) × (e.b < T) × EntryIn e

-- and lines behind them
record Through (xs : List Key) (n : Noted) : Type 0 where
  good : Good n.keys
  more : length xs ≤ length n.keys
  entries : EachIn (Stands (length n.keys)) n.entries

lines-through : (ls : List Line) (xs : List Key) → Good xs → LinesIn ls → Through xs (enter_lines ls xs)
lines-through [] xs g h = record { good = g; more = omega arith; entries = tt }
lines-through (l ∷ ls) xs g h =
    let a = term-reached l.left xs g h.0 in
    let b = term-reached l.right _ a.good h.1 in
    let c = lines-through ls _ b.good h.2 in
    record { good = c.good; more = omega arith; entries = ((omega arith, omega arith, omega arith), c.entries) }

pub entries-length : (ls : List Line) (xs : List Key) → length (enter_lines ls xs).entries ≡ length ls
entries-length [] xs = refl
entries-length (l ∷ ls) xs = ap suc (entries-length ls _)

module _ (ls : List Line) (some : 1 ≤ length ls) (within : LinesIn ls) (few : length (enter_lines ls []).keys ≤ max_terms) (short : length ls ≤ max_entries) where
  met : Through [] (enter_lines ls [])
  met = lines-through ls [] (record { each = λ i l. absurd (omega arith) }) within

  terms-length : count_terms (sheet_of ls) ≡ length (enter_lines ls []).keys
  terms-length = length-map (enter_lines ls []).keys record_of

  term_fits : (i : ℕ) → i < count_terms (sheet_of ls) → ArgumentsBelow i (term_at (sheet_of ls) i) × Fields.TermIn (term_at (sheet_of ls) i)
  term_fits i l = rw (get_or-map record_of (enter_lines ls []).keys i (of_variable 0)) (met.good.each i (omega (arith, terms-length)))

  entry-stands : (e : ℕ) → e < count_entries (sheet_of ls) → Stands (count_terms (sheet_of ls)) (entry_at (sheet_of ls) e)
  entry-stands e l = rw terms-length (each_at (Stands (length (enter_lines ls []).keys)) (enter_lines ls []).entries _ met.entries e l)

  pub lines-formed : WellFormed (sheet_of ls)
  lines-formed = record {
    some = omega (arith, entry-stands 0 (omega (arith, entries-length ls [])));
    terms = omega (arith, terms-length);
    entries = omega (arith, entries-length ls []);
    arguments = λ i l. (term_fits i l).0;
    left = λ e l. (entry-stands e l).0;
    right = λ e l. (entry-stands e l).1;
  }

  pub lines-fields : FieldsIn (sheet_of ls)
  lines-fields = record {
    terms = each_of Fields.TermIn (sheet_of ls).terms unknown (λ i l. (term_fits i l).1);
    entries = each_of EntryIn (sheet_of ls).entries _ (λ e l. (entry-stands e l).2);
  }
