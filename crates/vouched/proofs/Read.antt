-- Bytes that a step makes are read as that step: its fields, its walks, and the steps one behind the other.
-- Assumes nothing.
use Prim.Native.Nat.{ℕ, zero, suc, ◌+◌, ◌*◌, ◌^◌, ◌/◌, ◌%◌, ◌≤◌, ◌<◌}
use mathlib.Core.Path.{◌≡◌, refl, sym, ◌∙◌, ap}
use mathlib.Core.Bool.{cond}
use mathlib.Core.Logic.{◌⊎◌, inl, inr}
use mathlib.Core.List.{List, [], ◌∷◌, ◌++◌}
use lib.ListN.{length, get_or, length-append, get_or-append}
use lib.Seq.{ext_get_or}
use lib.IntN.{ℤ, pos}
use native.Mathlib.Omega.{arith}
use lib.Dec.{ltb}
use borrow.Author.Tests.{lt-ltb}
use Rattle.big.specs.Big.{Bytes, big_of, bytes_of, complement_of, signed_of}
use Rattle.big.proofs.Bytes.{bytes-length, read-written, complement-fits, signed-complement}
use Rattle.sheet.specs.Decode.{byte_at}
use Rattle.sheet.proofs.Decode.{length-each, get_or-each}
use Rattle.reasons.specs.Step.{Bound, entry, entry_back, term, term_back, tie, tie_back, Step, by_walks, by_functions, closing_walk, closing_entry, step_at}
use Rattle.reasons.specs.Rules.{TieWithin}
use Rattle.paper.proofs.Heads.{head-length}
use Rattle.paper.proofs.Walks.{bound-length}
use Rattle.paper.specs.Record.{bound_bytes, walk_bytes, step_head, step_bytes, steps_bytes, count_ties}
use Rattle.stated.specs.Said.{bound_of, walk_of, WalkFormed, step_of, steps_of, Formed, record_at}
use Rattle.stated.specs.declared.Step.{Step as Record}
use Rattle.recited.specs.Recited.{size_at, Whole, row_at, record_from, Recites, ended, step, Steps, done, other}
use Rattle.recited.specs.Recited.Steps.{tie as tie-step}

-- these bytes stand in b from `at` on
pub record Stands (b : List ℕ) (at : ℕ) (bytes : List ℕ) : Type 0 where
  pub same : (x : ℕ) → x < length bytes → get_or b (at + x) 0 ≡ get_or bytes x 0
  pub within : at + length bytes ≤ length b

get_or-behind : (p q : List ℕ) (x : ℕ) → get_or (p ++ q) (length p + x) 0 ≡ get_or q x 0
get_or-behind [] q x = ap (λ (n : ℕ). get_or q n 0) (omega arith)
get_or-behind (y ∷ p) q x = ap (λ (n : ℕ). get_or (y ∷ p ++ q) n 0) (suc-plus (length p) x) ∙ get_or-behind p q x
  where
    suc-plus : (n x : ℕ) → suc n + x ≡ suc (n + x)
    suc-plus n x = omega arith

module _ {b : List ℕ} {at : ℕ} where
  pub front : (p q : List ℕ) → Stands b at (p ++ q) → Stands b at p
  front p q h =
      record {
        same = λ x l. h.same x (omega (arith, length-append p q)) ∙ get_or-append p q 0 x l;
        within = omega (arith, length-append p q, h.within);
      }

  pub behind : (p q : List ℕ) (next : ℕ) → next ≡ at + length p → Stands b at (p ++ q) → Stands b next q
  behind p q next e h =
      record {
        same = λ x l. ap (λ (n : ℕ). get_or b n 0) (omega arith) ∙ h.same (length p + x) (omega (arith, length-append p q)) ∙
            get_or-behind p q x;
        within = omega (arith, length-append p q, h.within);
      }

  -- a number of w bytes
  prefix-big : (bytes : List ℕ) (w : ℕ) → w ≤ length bytes → Stands b at bytes → big_of b at w ≡ big_of bytes 0 w
  unfolding big_of
  prefix-big bytes zero l h = refl
  prefix-big bytes (suc w) l h = omega (arith, prefix-big bytes w (omega arith) h, h.same w (omega arith), byte-at w)
    where
      byte-at : (w : ℕ) → get_or bytes (0 + w) 0 ≡ get_or bytes w 0
      byte-at w = ap (λ (n : ℕ). get_or bytes n 0) (omega arith)

  pub number_read : (w v : ℕ) → v < 256 ^ w → Stands b at (bytes_of w v) → big_of b at w ≡ v
  number_read w v l h = prefix-big (bytes_of w v) w (omega (arith, bytes-length w v)) h ∙ read-written w v l

-- a bound as a number, and read as such
unfoldable bound_number : Bound → ℕ
bound_number (entry e) = e
bound_number (entry_back e) = 256 + e
bound_number (term i) = 512 + i
bound_number (term_back i) = 768 + i
bound_number (tie t) = 1024 + t
bound_number (tie_back t) = 1280 + t

bound-read : {b : List ℕ} {at : ℕ} (k : Bound) → Stands b at (bound_bytes k) → big_of b at 2 ≡ bound_number k
unfolding big_of bound_number
bound-read (entry e) h = omega (arith, h.same 0 (omega arith), h.same 1 (omega arith))
bound-read (entry_back e) h = omega (arith, h.same 0 (omega arith), h.same 1 (omega arith))
bound-read (term i) h = omega (arith, h.same 0 (omega arith), h.same 1 (omega arith))
bound-read (term_back i) h = omega (arith, h.same 0 (omega arith), h.same 1 (omega arith))
bound-read (tie t) h = omega (arith, h.same 0 (omega arith), h.same 1 (omega arith))
bound-read (tie_back t) h = omega (arith, h.same 0 (omega arith), h.same 1 (omega arith))

number_in : Bound → ℕ
number_in (entry e) = e
number_in (entry_back e) = e
number_in (term i) = i
number_in (term_back i) = i
number_in (tie t) = t
number_in (tie_back t) = t

number_small : {b : List ℕ} {at : ℕ} → Bytes b → (k : Bound) → Stands b at (bound_bytes k) → number_in k < 256
unfolding number_in
number_small {b} {at} B (entry e) h = omega (arith, h.same 1 (omega arith), B (at + 1))
number_small {b} {at} B (entry_back e) h = omega (arith, h.same 1 (omega arith), B (at + 1))
number_small {b} {at} B (term i) h = omega (arith, h.same 1 (omega arith), B (at + 1))
number_small {b} {at} B (term_back i) h = omega (arith, h.same 1 (omega arith), B (at + 1))
number_small {b} {at} B (tie t) h = omega (arith, h.same 1 (omega arith), B (at + 1))
number_small {b} {at} B (tie_back t) h = omega (arith, h.same 1 (omega arith), B (at + 1))

record Parts (n kind number : ℕ) : Type 0 where
  high : n / 256 ≡ kind
  low : n % 256 ≡ number

parts : (n kind number : ℕ) → n ≡ 256 * kind + number → number < 256 → Parts n kind number
parts n kind number e l = record { high = omega arith; low = omega arith }

bound-said : (k : Bound) → number_in k < 256 → (bound_of (bound_number k) ≡ k) × (bound_number k < 1536)
unfolding bound_of bound_number number_in
bound-said (entry e) l = let p = parts e 0 e (omega arith) l in (rw (p.high, p.low) refl, omega arith)
bound-said (entry_back e) l = let p = parts (256 + e) 1 e (omega arith) l in (rw (p.high, p.low) refl, omega arith)
bound-said (term i) l = let p = parts (512 + i) 2 i (omega arith) l in (rw (p.high, p.low) refl, omega arith)
bound-said (term_back i) l = let p = parts (768 + i) 3 i (omega arith) l in (rw (p.high, p.low) refl, omega arith)
bound-said (tie t) l = let p = parts (1024 + t) 4 t (omega arith) l in (rw (p.high, p.low) refl, omega arith)
bound-said (tie_back t) l = let p = parts (1280 + t) 5 t (omega arith) l in (rw (p.high, p.low) refl, omega arith)

-- a walk's bounds stand one behind the other
pub walk-length : (w : List Bound) → length (walk_bytes w) ≡ 2 * length w
unfolding walk_bytes
walk-length [] = refl
walk-length (k ∷ w) = omega (arith, length-append (bound_bytes k) (walk_bytes w), bound-length k, walk-length w)

walk_at : {b : List ℕ} (w : List Bound) (at : ℕ) → Stands b at (walk_bytes w) → (x : ℕ) → x < length w →
    Stands b (at + 2 * x) (bound_bytes (get_or w x (entry 0)))
unfolding walk_bytes
walk_at [] at h x l = absurd (omega arith)
walk_at {b} (k ∷ w) at h zero l = rw (zero_more at) (front (bound_bytes k) (walk_bytes w) h)
  where
    zero_more : (at : ℕ) → at + 2 * 0 ≡ at
    zero_more at = omega arith
walk_at {b} (k ∷ w) at h (suc x) l =
    rw (two-more at x) (walk_at w (at + 2) (behind (bound_bytes k) (walk_bytes w) (at + 2) (omega (arith, bound-length k)) h) x (omega arith))
  where
    two-more : (at x : ℕ) → at + 2 * suc x ≡ at + 2 + 2 * x
    two-more at x = omega arith

-- and are read as that walk
module _ {b : List ℕ} (B : Bytes b) (w : List Bound) (at : ℕ) (short : length w ≤ 129) (h : Stands b at (walk_bytes w)) where
  row_read : (x : ℕ) → x < length w → get_or (row_at b at (length w)) x 0 ≡ bound_number (get_or w x (entry 0))
  row_read x l =
      get_or-each 129 (λ y. cond (ltb y (length w)) (big_of b (at + 2 * y) 2) 0) 0 x (omega arith) ∙
      rw (lt-ltb x (length w) l) (bound-read (get_or w x (entry 0)) (walk_at w at h x l))

  bound-is : (x : ℕ) → x < length w → (bound_of (bound_number (get_or w x (entry 0))) ≡ get_or w x (entry 0)) × (bound_number (get_or w x (entry 0)) < 1536)
  bound-is x l = bound-said (get_or w x (entry 0)) (number_small B (get_or w x (entry 0)) (walk_at w at h x l))

  pub walk-said : walk_of (length w) (row_at b at (length w)) ≡ w
  walk-said =
      ext_get_or (entry 0) (walk_of (length w) (row_at b at (length w))) w (length-each (length w) said)
      (λ x l. let m : x < length w = omega (arith, length-each (length w) said) in
      get_or-each (length w) said (entry 0) x m ∙ ap bound_of (row_read x m) ∙ (bound-is x m).0)
    where
      said : ℕ → Bound
      said x = bound_of (get_or (row_at b at (length w)) x 0)

  pub walk-formed : WalkFormed (length w) (row_at b at (length w))
  walk-formed x l = omega (arith, row_read x l, (bound-is x l).1)

-- the fields of a step's head, as a record is read
record HeadRead (b : List ℕ) (at kind a b' c first second : ℕ) : Type 0 where
  kind-is : byte_at b at ≡ kind
  a-is : byte_at b (at + 1) ≡ a
  b-is : byte_at b (at + 2) ≡ b'
  c-is : big_of b (at + 3) 8 ≡ c
  first-is : byte_at b (at + 11) ≡ first
  second_is : byte_at b (at + 12) ≡ second

abbrev made : (kind a b' c first second : ℕ) (there back : List ℕ) → Record
made kind a b' c first second there back =
    record { kind = kind; a = a; b = b'; c = c; first = first; second = second; there = there; back = back }

module _ {b : List ℕ} where
  one_byte : {at x : ℕ} {xs : List ℕ} → Stands b at (x ∷ xs) → byte_at b at ≡ x
  one_byte {at} h = ap (λ (n : ℕ). get_or b n 0) (omega arith) ∙ h.same 0 (omega arith)

  then : {at x : ℕ} {xs : List ℕ} (next : ℕ) → next ≡ at + 1 → Stands b at (x ∷ xs) → Stands b next xs
  then {x} {xs} next e h = behind (x ∷ []) xs next e h

  head_read : {at : ℕ} (kind a b' : ℕ) (c : ℤ) (first second : ℕ) → complement_of 8 c < 256 ^ 8 → Stands b at (step_head kind a b' c first second) →
      HeadRead b at kind a b' (complement_of 8 c) first second
  unfolding step_head
  head_read {at} kind a b' c first second l h =
      let number = bytes_of 8 (complement_of 8 c) in
      let fields = front (kind ∷ a ∷ b' ∷ []) (number ++ (first ∷ second ∷ [])) h in
      let more = behind (kind ∷ a ∷ b' ∷ []) (number ++ (first ∷ second ∷ [])) (at + 3) refl h in
      let counts = behind number (first ∷ second ∷ []) (at + 11) (omega (arith, bytes-length 8 (complement_of 8 c))) more in
      record {
        kind-is = one_byte fields;
        a-is = one_byte (then (at + 1) refl fields);
        b-is = one_byte (then (at + 2) (omega arith) (then (at + 1) refl fields));
        c-is = number_read 8 (complement_of 8 c) l (front number (first ∷ second ∷ []) more);
        first-is = one_byte counts;
        second_is = one_byte (then (at + 12) (omega arith) counts);
      }

  -- so the record has these fields
  record-made : {at kind a b' c first second : ℕ} → HeadRead b at kind a b' c first second →
      record_from b at ≡ made kind a b' c first second (row_at b (at + 13) first) (row_at b (at + 13 + 2 * first) second)
  unfolding record_from
  record-made h = rw (h.kind-is, h.a-is, h.b-is, h.c-is, h.first-is, h.second_is) refl

  size-made : {at kind a b' c first second : ℕ} → HeadRead b at kind a b' c first second → size_at b at ≡ 13 + 2 * first + 2 * second
  unfolding size_at
  size-made h = rw (h.first-is, h.second_is) refl

pub at_least : (b : List ℕ) (at : ℕ) → 13 ≤ size_at b at
unfolding size_at
at_least b at = omega arith

-- what the rules leave of a step's numbers
abbrev pub Fits : Step → Type 0
Fits (by_walks a b c there back) = TieWithin c × (length there ≤ 129) × (length back ≤ 129)
Fits (by_functions a b) = Unit
Fits (closing_walk a round) = length round ≤ 129
Fits (closing_entry e) = Unit

abbrev pub kind_of : Step → ℕ
kind_of (by_walks a b c there back) = 0
kind_of (by_functions a b) = 1
kind_of (closing_walk a round) = 2
kind_of (closing_entry e) = 3

-- a step is read as itself
pub record StepRead (b : List ℕ) (at : ℕ) (k : Step) : Type 0 where
  pub kind-is : byte_at b at ≡ kind_of k
  pub size_is : size_at b at ≡ length (step_bytes k)
  pub said : step_of (record_from b at) ≡ k
  pub formed : Formed (record_from b at)

within-fits : (c : ℤ) → TieWithin c → (complement_of 8 c < 256 ^ 8) × (signed_of 8 (complement_of 8 c) ≡ c)
within-fits c (a, b) = (complement-fits 8 c (omega arith) (omega arith), signed-complement 8 c (omega arith) (omega arith))

zero-complement : complement_of 8 (pos 0) ≡ 0
unfolding complement_of
zero-complement = refl

head-zero : {b : List ℕ} {at : ℕ} (kind a b' first second : ℕ) → Stands b at (step_head kind a b' (pos 0) first second) →
    HeadRead b at kind a b' 0 first second
head-zero kind a b' first second h =
    rw (sym zero-complement) (head_read kind a b' (pos 0) first second (omega (arith, zero-complement)) h)

module _ {b : List ℕ} (B : Bytes b) {at : ℕ} where
  pub step-read : (k : Step) → Fits k → Stands b at (step_bytes k) → StepRead b at k
  unfolding step_of
  step-read (by_walks a b' c there back) (w, l, m) h =
      let (fits, signed) = within-fits c w in
      let head = step_head 0 a b' c (length there) (length back) in
      let size = head-length 0 a b' c (length there) (length back) in
      let begun = front (head ++ walk_bytes there) (walk_bytes back) h in
      let more = length-append head (walk_bytes there) in
      let H = head_read 0 a b' c (length there) (length back) fits (front head (walk_bytes there) begun) in
      let T = behind head (walk_bytes there) (at + 13) (omega arith) begun in
      let R = behind (head ++ walk_bytes there) (walk_bytes back) (at + 13 + 2 * length there) (omega (arith, walk-length there)) h in
      record {
        kind-is = H.kind-is;
        size_is = size-made H ∙ omega (arith, length-append (head ++ walk_bytes there) (walk_bytes back), walk-length there, walk-length back);
        said = rw (record-made H, signed, walk-said B there (at + 13) l T, walk-said B back (at + 13 + 2 * length there) m R) refl;
        formed =
            rw (record-made H)
            (record {
              kind = omega arith;
              b = λ z. absurd (omega arith);
              c = λ z. absurd (omega arith);
              first = λ z. absurd (neither z);
              second = λ z. absurd (omega arith);
              there = walk-formed B there (at + 13) l T;
              back = walk-formed B back (at + 13 + 2 * length there) m R;
            });
      }
    where
      neither : (◌≡◌ {A = ℕ} 0 1) ⊎ (◌≡◌ {A = ℕ} 0 3) → ⊥
      neither (inl e) = omega arith
      neither (inr e) = omega arith
  step-read (by_functions a b') w h =
      let H = head-zero 1 a b' 0 0 h in
      record {
        kind-is = H.kind-is;
        size_is = size-made H ∙ omega (arith, head-length 1 a b' (pos 0) 0 0);
        said = rw (record-made H) refl;
        formed = rw (record-made H) (record { kind = omega arith; b = λ z. absurd (omega arith); c = λ z. refl; first = λ z. refl; second = λ z. refl; there = λ x l. absurd (omega arith); back = λ x l. absurd (omega arith) });
      }
  step-read (closing_walk a round) l h =
      let head = step_head 2 a 0 (pos 0) (length round) 0 in
      let size = head-length 2 a 0 (pos 0) (length round) 0 in
      let H = head-zero 2 a 0 (length round) 0 (front head (walk_bytes round) h) in
      let R = behind head (walk_bytes round) (at + 13) (omega arith) h in
      record {
        kind-is = H.kind-is;
        size_is = size-made H ∙ omega (arith, length-append head (walk_bytes round), walk-length round);
        said = rw (record-made H, walk-said B round (at + 13) l R) refl;
        formed =
            rw (record-made H)
            (record { kind = omega arith; b = λ z. refl; c = λ z. refl; first = λ z. absurd (neither z); second = λ z. refl; there = walk-formed B round (at + 13) l R; back = λ x m. absurd (omega arith) });
      }
    where
      neither : (◌≡◌ {A = ℕ} 2 1) ⊎ (◌≡◌ {A = ℕ} 2 3) → ⊥
      neither (inl e) = omega arith
      neither (inr e) = omega arith
  step-read (closing_entry e) w h =
      let H = head-zero 3 e 0 0 0 h in
      record {
        kind-is = H.kind-is;
        size_is = size-made H ∙ omega (arith, head-length 3 e 0 (pos 0) 0 0);
        said = rw (record-made H) refl;
        formed = rw (record-made H) (record { kind = omega arith; b = λ z. refl; c = λ z. refl; first = λ z. refl; second = λ z. refl; there = λ x l. absurd (omega arith); back = λ x l. absurd (omega arith) });
      }

whole-step : {b : List ℕ} {at : ℕ} (k : Step) (q : List ℕ) → Stands b at (step_bytes k ++ q) → size_at b at ≡ length (step_bytes k) → Whole b at
whole-step {b} {at} k q h s =
    record { head = omega (arith, h.within, length-append (step_bytes k) q, s, at_least b at); bounds = omega (arith, h.within, length-append (step_bytes k) q) }

-- steps one behind the other are recited as they are
pub record Said (b : List ℕ) (at : ℕ) (steps : List Step) : Type 0 where
  pub records : List Record
  pub recites : Recites b at records
  pub steps-are : steps_of records ≡ steps
  pub formed : (n : ℕ) → n < length records → Formed (record_at records n)

pub steps-read : {b : List ℕ} → Bytes b → (steps : List Step) → ((n : ℕ) → n < length steps → Fits (step_at steps n)) → (at : ℕ) → Stands b at (steps_bytes steps) →
    at + length (steps_bytes steps) ≡ length b → Said b at steps
unfolding steps_bytes steps_of
steps-read B [] f at h e = record { records = []; recites = ended {at = at} (omega arith); steps-are = refl; formed = λ n l. absurd (omega arith) }
steps-read {b} B (k ∷ ks) f at h e =
    let R = step-read B k (f 0 (omega arith)) (front (step_bytes k) (steps_bytes ks) h) in
    let next : at + size_at b at ≡ at + length (step_bytes k) = omega (arith, R.size_is) in
    let more = behind (step_bytes k) (steps_bytes ks) (at + size_at b at) next h in
    let W : Whole b at = whole-step k (steps_bytes ks) h R.size_is in
    let S = steps-read B ks (λ n l. f (suc n) (omega arith)) (at + size_at b at) more (omega (arith, length-append (step_bytes k) (steps_bytes ks))) in
    record {
      records = record_from b at ∷ S.records;
      recites = step W S.recites;
      steps-are = cc (R.said, S.steps-are);
      formed = λ n l. each-formed S.records R.formed S.formed n l;
    }
  where
    each-formed : {r : Record} (rs : List Record) → Formed r → ((n : ℕ) → n < length rs → Formed (record_at rs n)) → (n : ℕ) → n < length (r ∷ rs) →
        Formed (record_at (r ∷ rs) n)
    each-formed rs a g zero l = a
    each-formed rs a g (suc n) l = g n (omega arith)

-- and counted
pub steps-counted : {b : List ℕ} → Bytes b → (steps : List Step) → ((n : ℕ) → n < length steps → Fits (step_at steps n)) → (at : ℕ) →
    Stands b at (steps_bytes steps) → at + length (steps_bytes steps) ≡ length b → Steps b at (length steps) (count_ties steps)
unfolding steps_bytes count_ties
steps-counted B [] f at h e = done {at = at} (omega arith)
steps-counted {b} B (k ∷ ks) f at h e =
    let R = step-read B k (f 0 (omega arith)) (front (step_bytes k) (steps_bytes ks) h) in
    let next : at + size_at b at ≡ at + length (step_bytes k) = omega (arith, R.size_is) in
    let more = behind (step_bytes k) (steps_bytes ks) (at + size_at b at) next h in
    let W = whole-step k (steps_bytes ks) h R.size_is in
    let S = steps-counted B ks (λ n l. f (suc n) (omega arith)) (at + size_at b at) more (omega (arith, length-append (step_bytes k) (steps_bytes ks))) in
    go k R.kind-is W S
  where
    go : (k : Step) → byte_at b at ≡ kind_of k → Whole b at → Steps b (at + size_at b at) (length ks) (count_ties ks) →
        Steps b at (suc (length ks)) (count_ties (k ∷ ks))
    go (by_walks a b' c there back) q W S = tie-step {at = at} W (omega arith) S
    go (by_functions a b') q W S = tie-step {at = at} W (omega arith) S
    go (closing_walk a round) q W S = other {at = at} W (omega arith) S
    go (closing_entry e) q W S = other {at = at} W (omega arith) S
