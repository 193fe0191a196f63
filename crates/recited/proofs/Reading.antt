-- A reading goes on from step to step, and comes to the first steps that the bytes say and to how many they are.
-- Assumes nothing.
use Prim.Native.Nat.{ℕ, ◌+◌, ◌≤◌, ◌<◌}
use mathlib.Core.Path.{◌≡◌, refl, sym, ap, ◌∙◌}
use mathlib.Core.List.{List, [], ◌∷◌}
use lib.ListN.{length, drop, set, take, get_or, length-set, length-drop}
use lib.Seq.{get_or-drop, drop-drop, get_or-set_same, get_or-set_other, get_or-take, ext_get_or, length-take-le, take_all}
use native.Mathlib.Decide.{ℕ_discrete, dec_lt}
use native.Mathlib.Omega.{arith}
use Rattle.stated.specs.Said.{blank, record_at}
use Rattle.stated.specs.declared.Step.{Step as Record}
use Rattle.recited.specs.Recited.{Whole, record_from, torn, Recites, ended, cut, step}
use Rattle.recited.specs.Reading.{most, Ends, From, Firsts, Counts}
use Rattle.recited.proofs.Recites.{whole?}

-- bytes that are left say a step, and go on where it ends
record Next (b : List ℕ) (at end : ℕ) (records : List Record) : Type 0 where
  first : Record
  rest : List Record
  is : records ≡ first ∷ rest
  says : (r : Record) → From b at r → r ≡ first
  recites : Recites b end rest

next : {b : List ℕ} {at end : ℕ} {records : List Record} → at < length b → Ends b at end → Recites b at records → Next b at end records
next h E (ended l) = absurd (omega arith)
next {end = end} h E (cut l w) =
    record { first = torn; rest = []; is = refl; says = λ r F. F.cut w; recites = ended {at = end} (omega (arith, E.cut w)) }
next {b} {at} h E (step {rest = rest} W R) =
    record { first = record_from b at; rest = rest; is = refl; says = λ r F. F.whole W; recites = rw (E.whole W) R }

nothing_left : {b : List ℕ} {at : ℕ} {records : List Record} → length b ≤ at → Recites b at records → records ≡ []
nothing_left l (ended m) = refl
nothing_left l (cut m w) = absurd (omega arith)
nothing_left l (step W R) = absurd (omega arith)

pub ends-within : {b : List ℕ} {at end : ℕ} → Ends b at end → end ≤ length b
ends-within {b} {at} {end} E = go (whole? b at)
  where
    go : Dec (Whole b at) → end ≤ length b
    go (yes W) = omega (arith, E.whole W)
    go (no w) = omega (arith, E.cut w)

-- n steps are read, and what is left begins at `at`
pub record Reads (room : ℕ) (b : List ℕ) (at n : ℕ) : Type 0 where
  pub within : at ≤ length b
  pub few : n ≤ room
  pub passed : (records : List Record) → Recites b 0 records → n ≤ length records
  pub left : (records : List Record) → Recites b 0 records → Recites b at (drop n records)

pub none_read : (room : ℕ) (b : List ℕ) → Reads room b 0 0
none_read room b = record { within = omega arith; few = omega arith; passed = λ records R. omega arith; left = λ records R. R }

-- and are the first of `steps`
pub record Kept (room : ℕ) (b : List ℕ) (n : ℕ) (steps : List Record) : Type 0 where
  pub size : length steps ≡ room
  pub each : (records : List Record) → Recites b 0 records → (k : ℕ) → k < n → record_at steps k ≡ record_at records k

module _ {room : ℕ} {b : List ℕ} {at n : ℕ} (S : Reads room b at n) where
  all_read : (n < room → length b ≤ at) → (records : List Record) → Recites b 0 records → n < room → n ≡ length records
  all_read l records R h = omega (arith, S.passed records R, ap length (nothing_left (l h) (S.left records R)), length-drop n records)

  pub firsts : {steps : List Record} → (n < room → length b ≤ at) → Kept room b n steps → Firsts room b steps
  firsts l K = record { size = K.size; each = λ records R k m h. K.each records R k (below records R k m h (dec_lt n room)) }
    where
      below : (records : List Record) → Recites b 0 records → (k : ℕ) → k < room → k < length records → Dec (n < room) → k < n
      below records R k m h (yes i) = omega (arith, all_read l records R i)
      below records R k m h (no i) = omega arith

  module _ (m : n < room) (h : at < length b) where
    pub one-read : {end : ℕ} → Ends b at end → Reads room b end (n + 1)
    one-read E =
        record {
          within = ends-within E;
          few = omega arith;
          passed = λ records R. omega (arith, ap length (next h E (S.left records R)).is, length-drop n records);
          left = λ records R.
              let N = next h E (S.left records R) in
              rw (sym (drop-drop 1 n records) ∙ ap (drop 1) N.is) N.recites;
        }

    pub one_kept : {end : ℕ} {steps : List Record} {r : Record} → Ends b at end → From b at r → Kept room b n steps → Kept room b (n + 1) (set steps n r)
    one_kept {steps = steps} {r} E F K =
        record { size = simp length-set K.size; each = λ records R k l. either records R k l (ℕ_discrete k n) }
      where
        here : (records : List Record) → Recites b 0 records → r ≡ record_at records n
        here records R =
            let N = next h E (S.left records R) in
            let e : n + 0 ≡ n = omega arith in
            N.says r F ∙ sym (ap (λ (l : List Record). get_or l 0 blank) N.is) ∙ rw e at (get_or-drop n records 0 blank)

        either : (records : List Record) → Recites b 0 records → (k : ℕ) → k < n + 1 → Dec (k ≡ n) → record_at (set steps n r) k ≡ record_at records k
        either records R k l (yes e) =
            ap (λ (i : ℕ). record_at (set steps n r) i) e ∙ get_or-set_same steps n r blank (omega (arith, K.size)) ∙ here records R
            ∙ ap (λ (i : ℕ). record_at records i) (sym e)
        either records R k l (no d) = get_or-set_other steps n k r blank d ∙ K.each records R k (omega arith)

pub counts : {b : List ℕ} {at n : ℕ} → Reads most b at n → (n < most → length b ≤ at) → Counts b n
counts S l = record { few = S.few; within = S.passed; all = λ records R h. all_read S l records R h }

-- counted so, they are the first of those that are said
pub first-records : {room : ℕ} {b : List ℕ} {n : ℕ} {steps records : List Record} → Firsts room b steps → Counts b n → n ≤ room →
    Recites b 0 records → take n steps ≡ take most records
first-records {n = n} {steps} {records} F C fit R =
    ext_get_or blank (take n steps) (take most records) (lengths ∙ sym (count (dec_lt n most))) (λ k l. same k (omega (arith, lengths)))
  where
    lengths : length (take n steps) ≡ n
    lengths = length-take-le n steps (omega (arith, F.size))

    count : Dec (n < most) → length (take most records) ≡ n
    count (yes l) = let e = C.all records R l in ap length (take_all most records (omega arith)) ∙ sym e
    count (no l) = length-take-le most records (omega (arith, C.few, C.within records R)) ∙ omega (arith, C.few)

    same : (k : ℕ) → k < n → record_at (take n steps) k ≡ record_at (take most records) k
    same k l =
        get_or-take n steps k blank l ∙ F.each records R k (omega arith) (omega (arith, C.within records R))
        ∙ sym (get_or-take most records k blank (omega (arith, C.few)))
