-- What the number reader comes to says of the text.
-- Assumes nothing.
use Prim.Native.Nat.{ℕ, suc, ◌+◌, ◌*◌, ◌-◌, ◌≤◌, ◌<◌}
use mathlib.Core.Path.{◌≡◌, refl, sym, ap, ◌∙◌, subst}
use mathlib.Core.Bool.{Bool, true, false, cond}
use mathlib.Core.List.{List, [], ◌∷◌}
use lib.Dec.{eqb, ltb}
use lib.ListN.{length, get_or, drop, length-drop, get_or-eq_default}
use lib.Seq.{drop-cons}
use native.Mathlib.Omega.{arith}
use native.Mathlib.Decide.{dec_lt}
use borrow.Author.Tests.{eqb-true, eqb-false, ltb-true, ltb-false, le-leb, lt-leb, lt-ltb, le-ltb}
use Rattle.sheet.specs.Limits.{max_terms, max_entries}
use Rattle.text.specs.Typed.{Context, Use, State, value, Alive}
use Rattle.text.specs.Typed.Lead.{of_negative, of_variable, of_symbol, of_shift}
use Rattle.text.specs.Typed.Use.{of_number, led}
use Rattle.text.specs.Typed.State.{stopped, digits}
use Rattle.text.specs.Machine.{pack, fits, first_digit, digit, is_digit, step}
use Rattle.text.specs.Reach.{at, Whole}
use Rattle.text.specs.Text.Sign.{plus, minus}
use Rattle.text.proofs.Shown.{value-pack, fits-some}
use Rattle.text.proofs.Through.{digit-step}
use Rattle.text.proofs.Place.{at_next, IsWhole, is_whole, fault-at}
use Rattle.numbered.specs.Completed.{met_use, met_number}
use Rattle.slips.specs.Slips.{max_depth, limit, depth_of, line, digit_at, FirstSlip}
use Rattle.slips.specs.Outcome.{Outcome}
use Rattle.slips.specs.Outcome.Outcome.{read, refused}
use Rattle.slips.proofs.Clean.{Clean, Sound, clean-next, first-form, first_range, first-terms}
use Rattle.numeral.specs.Model.{digit_of, more, number}

-- the least number that may stand there
abbrev pub least_of : Use → ℕ
least_of K = cond (fits K 0) 0 1

-- a number is due at i, all bytes before it are fine, and nothing stands in its way
pub record NumberDue (bs : List ℕ) (i : ℕ) (C : Context) (K : Use) : Type 0 where
  pub within : i ≤ length bs
  pub alive : Alive (at bs i)
  pub short : length bs ≤ i → Whole (at bs i) → ⊥
  pub begins : (d : ℕ) → digit (at bs i) d ≡ first_digit C K d
  pub other : i < length bs → is_digit (get_or bs i 0) ≡ false → step (at bs i) (get_or bs i 0) ≡ stopped
  pub clean : Clean bs i
  pub shallow : depth_of C ≤ max_depth
  pub few : length (met_use C K) ≤ max_terms
  pub lines : line C ≤ max_entries

-- the number v ends before e; whether the term that it ends is one too many decides over the bytes up to there
pub record NumberEnd (bs : List ℕ) (i : ℕ) (C : Context) (K : Use) (e v : ℕ) : Type 0 where
  pub n : ℕ
  pub is : value K n ≡ v
  pub last : ℕ
  pub ends : suc last ≡ e
  pub begins : i ≤ last
  pub within : last < length bs
  pub same : at bs e ≡ digits C K n
  pub in_range : v ≤ limit K
  pub no_digit : digit_at bs e ≡ false
  pub clean : length (met_number C K n) ≤ max_terms → Clean bs e
  pub full : max_terms < length (met_number C K n) → FirstSlip bs 23 last

abbrev pub NumberTold : List ℕ → ℕ → Context → Use → Outcome → Type 0
NumberTold bs i C K (read e v) = NumberEnd bs i C K e v
NumberTold bs i C K (refused N p) = FirstSlip bs N p

-- a byte is a digit where the digit that it is, is
module _ (b : ℕ) where
  pub is_digit_lem : ltb (digit_of b) 10 ≡ true → (48 + digit_of b ≡ b) × (is_digit b ≡ true)
  is_digit_lem h = go (ltb b 48) refl (ltb-true (digit_of b) 10 h)
    where
      go : (t : Bool) → ltb b 48 ≡ t → cond t 10 (b - 48) < 10 → (48 + cond t 10 (b - 48) ≡ b) × (is_digit b ≡ true)
      go true q l = absurd (omega arith)
      go false q l =
          let u = ltb-false b 48 q in
          (omega arith, rw (le-leb 48 b (omega arith), le-leb b 57 (omega arith)))

  pub no_digit : ltb (digit_of b) 10 ≡ false → is_digit b ≡ false
  no_digit h = go (ltb b 48) refl (ltb-false (digit_of b) 10 h)
    where
      go : (t : Bool) → ltb b 48 ≡ t → 10 ≤ cond t 10 (b - 48) → is_digit b ≡ false
      go true q l = rw (lt-leb 48 b (ltb-true b 48 q))
      go false q l =
          let u = ltb-false b 48 q in
          rw (le-leb 48 b (omega arith), lt-leb b 57 (omega arith))

  -- and then the machine takes it as one
  pub takes : (s : State) → ltb (digit_of b) 10 ≡ true → step s b ≡ digit s (digit_of b)
  takes s h = ap (step s) (sym (is_digit_lem h).0) ∙ digit-step s (digit_of b) (ltb-true (digit_of b) 10 h)

-- a number is no whole line
digits-short : {s : State} {C : Context} {K : Use} {n : ℕ} → s ≡ digits C K n → Whole s → ⊥
digits-short e w = subst IsWhole e (is_whole w)

over-nine : (K : Use) → 9 ≤ limit K
over-nine of_number = omega arith
over-nine (led of_negative) = omega arith
over-nine (led of_variable) = omega arith
over-nine (led of_symbol) = omega arith
over-nine (led (of_shift p plus)) = omega arith
over-nine (led (of_shift p minus)) = omega arith

-- the least digit that may come first
least-stops : (K : Use) (d : ℕ) → ltb d (least_of K) ≡ true → fits K d ≡ false
least-stops of_number d h = absurd (omega (arith, ltb-true d 0 h))
least-stops (led of_negative) d h = le-ltb 0 d (omega (arith, ltb-true d 1 h))
least-stops (led of_variable) d h = absurd (omega (arith, ltb-true d 0 h))
least-stops (led of_symbol) d h = absurd (omega (arith, ltb-true d 0 h))
least-stops (led (of_shift p s)) d h = absurd (omega (arith, ltb-true d 0 h))

least_fits : (K : Use) (d : ℕ) → ltb d (least_of K) ≡ false → fits K d ≡ true
least_fits of_number d h = refl
least_fits (led of_negative) d h = lt-ltb 0 d (omega (arith, ltb-false d 1 h))
least_fits (led of_variable) d h = refl
least_fits (led of_symbol) d h = refl
least_fits (led (of_shift p s)) d h = refl

module _ (bs : List ℕ) (i : ℕ) (C : Context) (K : Use) (D : NumberDue bs i C K) where
  -- a number that ends with byte q, so far
  record Grown (q v : ℕ) : Type 0 where
    n : ℕ
    is : value K n ≡ v
    begins : i ≤ q
    within : q < length bs
    same : at bs (suc q) ≡ digits C K n
    in_range : v ≤ limit K
    clean : Clean bs q

  sound : {q v : ℕ} → Grown q v → Sound bs q
  sound G =
      let r = G.in_range in
      let e = G.is in
      record { within = G.within; alive = rw G.same tt; shallow = rw G.same D.shallow; in_range = rw G.same (omega arith) }

  -- the next byte is no digit
  ended : {q v : ℕ} → Grown q v → digit_at bs (suc q) ≡ false → NumberEnd bs i C K (suc q) v
  ended {q} {v} G h = record {
    n = G.n;
    is = G.is;
    last = q;
    ends = refl;
    begins = G.begins;
    within = G.within;
    same = G.same;
    in_range = G.in_range;
    no_digit = h;
    clean = λ l. clean-next G.clean (record { sound = sound G; terms = rw (h, G.same) l; lines = rw G.same D.lines });
    full = λ l. first-terms G.clean (sound G) (rw (h, G.same) l);
  }

  -- the next byte is a digit
  on : {q v : ℕ} → Grown q v → digit_at bs (suc q) ≡ true → Clean bs (suc q)
  on G h = clean-next G.clean (record { sound = sound G; terms = rw (h, G.same) D.few; lines = rw G.same D.lines })

  more-told : (xs : List ℕ) (q v : ℕ) → drop (suc q) bs ≡ xs → Grown q v → NumberTold bs i C K (more (limit K) xs (suc q) v)
  unfolding more
  more-told [] q v e G =
      let l = sym (length-drop (suc q) bs) ∙ ap length e in
      ended G (rw (get_or-eq_default bs 0 {n = suc q} (omega arith)) refl)
  more-told (b ∷ xs) q v e G = go (more-told xs) (ltb (digit_of b) 10) refl
    where
      Self : Type 0
      Self = (q v : ℕ) → drop (suc q) bs ≡ xs → Grown q v → NumberTold bs i C K (more (limit K) xs (suc q) v)

      l : suc q < length bs
      l = let k = sym (length-drop (suc q) bs) ∙ ap length e in omega arith

      is_b : get_or bs (suc q) 0 ≡ b
      is_b = ap (λ (x : List ℕ). get_or x 0 0) (sym (drop-cons bs (suc q) 0 l) ∙ e)

      rest : drop (suc (suc q)) bs ≡ xs
      rest = ap (drop 1) (sym (drop-cons bs (suc q) 0 l) ∙ e)

      go : Self → (t : Bool) → ltb (digit_of b) 10 ≡ t →
          NumberTold bs i C K (cond t (cond (eqb v 0) (refused 20 (suc q)) (cond (ltb (limit K) (10 * v + digit_of b)) (refused 22 (suc q)) (more (limit K) xs (suc (suc q)) (10 * v + digit_of b)))) (read (suc q) v))
      go self false h = ended G (rw is_b (no_digit b h))
      go self true h = again (eqb v 0) refl
        where
          d : ℕ
          d = digit_of b

          clean : Clean bs (suc q)
          clean = on G (rw is_b (is_digit_lem b h).1)

          next : at bs (suc (suc q)) ≡ digit (digits C K G.n) d
          next = at_next bs (suc q) l ∙ rw (is_b, G.same) (takes b (digits C K G.n) h)

          again : (t : Bool) → eqb v 0 ≡ t →
              NumberTold bs i C K (cond t (refused 20 (suc q)) (cond (ltb (limit K) (10 * v + d)) (refused 22 (suc q)) (more (limit K) xs (suc (suc q)) (10 * v + d))))
          again true z =
              let y : value K G.n ≡ 0 = G.is ∙ eqb-true v 0 z in
              first-form clean (fault-at bs (suc q) (omega arith) (rw G.same tt) (λ k. sym (at_next bs (suc q) k) ∙ next ∙ rw y refl) (λ k. digits-short G.same))
          again false z = last (ltb (limit K) (10 * v + d)) refl
            where
              some : 0 < v
              some = let y = eqb-false v 0 z in omega arith

              larger : at bs (suc (suc q)) ≡ digits C K (pack K (10 * v + d))
              larger =
                  let w : value K G.n * 10 + d ≡ 10 * v + d = let y = G.is in omega arith in
                  next ∙ rw (lt-ltb 0 (value K G.n) (let y = G.is in omega (arith, some)), w) refl

              holds : value K (pack K (10 * v + d)) ≡ 10 * v + d
              holds = value-pack K (10 * v + d) (fits-some K (10 * v + d) (omega (arith, some)))

              last : (t : Bool) → ltb (limit K) (10 * v + d) ≡ t → NumberTold bs i C K (cond t (refused 22 (suc q)) (more (limit K) xs (suc (suc q)) (10 * v + d)))
              last true y = first_range C K (pack K (10 * v + d)) clean l larger D.shallow (rw holds (ltb-true (limit K) (10 * v + d) y))
              last false y = self (suc q) (10 * v + d) rest (record {
                n = pack K (10 * v + d);
                is = holds;
                begins = let g = G.begins in omega arith;
                within = l;
                same = larger;
                in_range = ltb-false (limit K) (10 * v + d) y;
                clean = clean;
              })

  -- what the reader comes to is so
  pub number-told : NumberTold bs i C K (number bs i (least_of K) (limit K))
  unfolding number
  number-told = go (ltb 9 d) refl
    where
      d : ℕ
      d = digit_of (get_or bs i 0)

      wrong : (i < length bs → step (at bs i) (get_or bs i 0) ≡ stopped) → FirstSlip bs 20 i
      wrong s = first-form D.clean (fault-at bs i D.within D.alive s D.short)

      go : (t : Bool) → ltb 9 d ≡ t → NumberTold bs i C K (cond t (refused 20 i) (cond (ltb d (least_of K)) (refused 20 i) (more (limit K) (drop (suc i) bs) (suc i) d)))
      go true h = wrong (λ l. D.other l (no_digit (get_or bs i 0) (le-ltb d 10 (ltb-true 9 d h))))
      go false h = again (ltb d (least_of K)) refl
        where
          small : d < 10
          small = let k = ltb-false 9 d h in omega arith

          is : ltb d 10 ≡ true
          is = lt-ltb d 10 small

          there : step (at bs i) (get_or bs i 0) ≡ first_digit C K d
          there = takes (get_or bs i 0) (at bs i) is ∙ D.begins d

          l : i < length bs
          l = within (dec_lt i (length bs))
            where
              within : Dec (i < length bs) → i < length bs
              within (yes k) = k
              within (no k) = let e : d ≡ 10 = ap digit_of (get_or-eq_default bs 0 {n = i} (omega arith)) in absurd (omega (arith, small))

          again : (t : Bool) → ltb d (least_of K) ≡ t → NumberTold bs i C K (cond t (refused 20 i) (more (limit K) (drop (suc i) bs) (suc i) d))
          again true z = wrong (λ k. there ∙ rw (least-stops K d z) refl)
          again false z = more-told (drop (suc i) bs) i d refl (record {
            n = pack K d;
            is = value-pack K d (least_fits K d z);
            begins = omega arith;
            within = l;
            same = at_next bs i l ∙ there ∙ rw (least_fits K d z) refl;
            in_range = let k = over-nine K in omega (arith, small);
            clean = D.clean;
          })
