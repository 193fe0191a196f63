-- What the lookup means for the numbering: on a memory that holds a table of keys it enters a key as the text's numbering does.
-- Assumes nothing.
use Prim.Native.Nat.{ℕ, zero, suc, ◌+◌, ◌-◌, ◌≤◌, ◌<◌}
use mathlib.Core.Path.{◌≡◌, refl, sym, ap, ◌∙◌}
use mathlib.Core.Bool.{Bool, true, false, cond}
use mathlib.Core.List.{List, [], ◌∷◌, ◌++◌, map, map-append}
use lib.Dec.{ltb, leb, eqb}
use lib.IntN.{ℤ, pos, negsuc}
use lib.ListN.{length, get_or, take, set, replicate, length-append, length-set, length-replicate, get_or-replicate}
use lib.Seq.{get_or-set_same, get_or-set_other, take-set-le, take-suc-set}
use native.Mathlib.Decide.{ℕ_discrete, dec_lt}
use native.Mathlib.Omega.{arith}
use borrow.Author.Tests.{eq-eqb, ne_eqb, lt-ltb, le-ltb}
use Rattle.big.specs.Big.{complement_of}
use Rattle.sheet.specs.Limits.{max_terms}
use Rattle.slips.specs.Outcome.Outcome.{read, refused}
use Rattle.numbered.specs.Numbered.{Key, whole_code, code, same_list, find, enter_key}
use Rattle.numbered.specs.Numbered.Key.{of_variable, of_number, of_shift, of_apply, of_apply2}
use Rattle.numbered.specs.Within.{WholeIn}
use Rattle.met.specs.Model.{memory_cells, Told, count_in, place_in, entered}
use Rattle.met.specs.Keys.{code_of, KeyIn, KeysIn, Table}
use Rattle.met.proofs.Place.{told-met, told-full, told-new}

-- u and v are equal exactly where the lists are
record Tells (u v : ℕ) (xs ys : List ℕ) : Type 0 where
  is : eqb u v ≡ same_list xs ys

module _ {u v : ℕ} where
  all_told : u ≡ v → Tells u v [] []
  all_told e = record { is = eq-eqb u v e }

  field : {a b : ℕ} {xs ys : List ℕ} → (u ≡ v → a ≡ b) → (a ≡ b → Tells u v xs ys) → Tells u v (a ∷ xs) (b ∷ ys)
  field {a} {b} {xs} {ys} f g = go (ℕ_discrete a b)
    where
      go : Dec (a ≡ b) → Tells u v (a ∷ xs) (b ∷ ys)
      go (yes e) = record { is = rw (eq-eqb a b e) (g e).is }
      go (no n) = record { is = rw (ne_eqb a b n) (ne_eqb u v (λ e. n (f e))) }

  apart : {xs ys : List ℕ} → same_list xs ys ≡ false → (u ≡ v → ⊥) → Tells u v xs ys
  apart s n = record { is = rw (ne_eqb u v n) (sym s) }

whole-fits : (c : ℤ) → WholeIn c → complement_of 2 c < 65536
unfolding complement_of
whole-fits (pos n) C = omega arith
whole-fits (negsuc n) C = omega arith

whole-field : {u v : ℕ} (c d : ℤ) → WholeIn c → WholeIn d → (u ≡ v → complement_of 2 c ≡ complement_of 2 d) →
    (complement_of 2 c ≡ complement_of 2 d → u ≡ v) → Tells u v (whole_code c) (whole_code d)
unfolding complement_of
whole-field (pos m) (pos n) C D f g = field (λ e. refl) (λ e. field f (λ d. all_told (g d)))
whole-field (pos m) (negsuc n) C D f g = apart refl (λ e. let h = f e in omega arith)
whole-field (negsuc m) (pos n) C D f g = apart refl (λ e. let h = f e in omega arith)
whole-field (negsuc m) (negsuc n) C D f g = field (λ e. refl) (λ e. field (λ d. let h = f d in omega arith) (λ d. all_told (g (rw d))))

-- no field reaches into the next
told : (x k : Key) → KeyIn x → KeyIn k → Tells (code_of x) (code_of k) (code x) (code k)
told (of_variable m) (of_variable n) X K = field (λ e. refl) (λ e. field (λ h. omega arith) (λ h. all_told (omega arith)))
told (of_variable m) (of_number d) X K = apart refl (λ e. omega (arith, whole-fits d K))
told (of_variable m) (of_shift b d) X K = apart refl (λ e. omega (arith, whole-fits d K.1))
told (of_variable m) (of_apply g b) X K = apart refl (λ e. omega arith)
told (of_variable m) (of_apply2 g b b') X K = apart refl (λ e. omega arith)
told (of_number c) (of_variable n) X K = apart refl (λ e. omega (arith, whole-fits c X))
told (of_number c) (of_number d) X K = field (λ e. refl) (λ e. whole-field c d X K (λ h. omega arith) (λ h. omega arith))
told (of_number c) (of_shift b d) X K = apart refl (λ e. omega (arith, whole-fits c X, whole-fits d K.1))
told (of_number c) (of_apply g b) X K = apart refl (λ e. omega (arith, whole-fits c X))
told (of_number c) (of_apply2 g b b') X K = apart refl (λ e. omega (arith, whole-fits c X))
told (of_shift a c) (of_variable n) X K = apart refl (λ e. omega (arith, whole-fits c X.1))
told (of_shift a c) (of_number d) X K = apart refl (λ e. omega (arith, whole-fits c X.1, whole-fits d K))
told (of_shift a c) (of_shift b d) X K =
    field (λ e. refl)
    (λ e. field (λ h. omega (arith, whole-fits c X.1, whole-fits d K.1)) (λ h. whole-field c d X.1 K.1 (λ i. omega arith) (λ i. omega arith)))
told (of_shift a c) (of_apply g b) X K = apart refl (λ e. omega (arith, whole-fits c X.1))
told (of_shift a c) (of_apply2 g b b') X K = apart refl (λ e. omega (arith, whole-fits c X.1))
told (of_apply f a) (of_variable n) X K = apart refl (λ e. omega arith)
told (of_apply f a) (of_number d) X K = apart refl (λ e. omega (arith, whole-fits d K))
told (of_apply f a) (of_shift b d) X K = apart refl (λ e. omega (arith, whole-fits d K.1))
told (of_apply f a) (of_apply g b) X K =
    field (λ e. refl) (λ e. field (λ h. omega arith) (λ h. field (λ i. omega arith) (λ i. all_told (omega arith))))
told (of_apply f a) (of_apply2 g b b') X K = apart refl (λ e. omega arith)
told (of_apply2 f a a') (of_variable n) X K = apart refl (λ e. omega arith)
told (of_apply2 f a a') (of_number d) X K = apart refl (λ e. omega (arith, whole-fits d K))
told (of_apply2 f a a') (of_shift b d) X K = apart refl (λ e. omega (arith, whole-fits d K.1))
told (of_apply2 f a a') (of_apply g b) X K = apart refl (λ e. omega arith)
told (of_apply2 f a a') (of_apply2 g b b') X K =
    field (λ e. refl)
    (λ e. field (λ h. omega arith) (λ h. field (λ i. omega arith) (λ i. field (λ l. omega arith) (λ l. all_told (omega arith)))))

-- a key's number tells the key
pub same_code : (x k : Key) → KeyIn x → KeyIn k → eqb (code_of x) (code_of k) ≡ same_list (code x) (code k)
same_code x k X K = (told x k X K).is

pub find-place : (xs : List Key) (k : Key) → KeysIn xs → KeyIn k → place_in (map code_of xs) (code_of k) ≡ find xs k
find-place [] k X K = refl
find-place (x ∷ xs) k X K = rw (same_code x k X.0 K, find-place xs k X.1 K)

find-within : (xs : List Key) (k : Key) → find xs k ≤ length xs
find-within [] k = omega arith
find-within (x ∷ xs) k = go (same_list (code x) (code k)) (find-within xs k)
  where
    go : (t : Bool) → find xs k ≤ length xs → cond t zero (suc (find xs k)) ≤ suc (length xs)
    go true h = omega arith
    go false h = omega arith

-- a key that was met, or one that wasn't
data Entry (xs : List Key) (k : Key) : Type 0 where
  met : find xs k < length xs → (enter_key xs k).keys ≡ xs → Entry xs k
  new : find xs k ≡ length xs → (enter_key xs k).keys ≡ xs ++ k ∷ [] → Entry xs k

entry : (xs : List Key) (k : Key) → Entry xs k
entry xs k = go (dec_lt (find xs k) (length xs))
  where
    go : Dec (find xs k < length xs) → Entry xs k
    go (yes h) = met h (rw (lt-ltb _ _ h))
    go (no n) = let h = find-within xs k in new (omega arith) (rw (le-ltb (find xs k) (length xs) (omega arith)))

pub enter-below : (xs : List Key) (k : Key) → (enter_key xs k).last < length (enter_key xs k).keys
enter-below xs k = go (entry xs k)
  where
    go : Entry xs k → find xs k < length (enter_key xs k).keys
    go (met h e) = rw e h
    go (new h e) = rw e (simp length-append (omega arith))

keys-more : (xs : List Key) (k : Key) → KeysIn xs → KeyIn k → KeysIn (xs ++ k ∷ [])
keys-more [] k X K = (K, tt)
keys-more (x ∷ xs) k X K = (X.0, keys-more xs k X.1 K)

table_more : {m : List ℕ} {xs : List Key} (k : Key) → Table m xs → KeyIn k → length xs < max_terms →
    Table (set (set m (count_in m) (code_of k)) max_terms (count_in m + 1)) (xs ++ k ∷ [])
table_more {m} {xs} k T K h =
    let l : length (xs ++ k ∷ []) ≡ suc (length xs) = simp length-append (omega arith) in record {
      cells = simp length-set T.cells;
      count = get_or-set_same (set m (count_in m) (code_of k)) max_terms (count_in m + 1) 0 (simp length-set (omega arith)) ∙ omega arith;
      few = omega arith;
      held = rw (
        l,
        T.count,
        take-set-le (suc (length xs)) (set m (length xs) (code_of k)) max_terms (length xs + 1) (omega arith),
        take-suc-set m (length xs) (code_of k) (omega arith),
        T.held,
        map-append,
      );
      keys = keys-more xs k T.keys K;
    }

-- where a key stands in the memory is its number
place : {m : List ℕ} {xs : List Key} (k : Key) → Table m xs → KeyIn k → place_in (take (count_in m) m) (code_of k) ≡ find xs k
place {m} {xs} k T K = rw (T.count, T.held) (find-place xs k T.keys K)

pub record EnteredIn (m : List ℕ) (xs : List Key) (k : Key) (e : ℕ) : Type 0 where
  pub outcome-is : (entered m (code_of k) e).outcome ≡ read e (enter_key xs k).last
  pub table : Table (entered m (code_of k) e).memory (enter_key xs k).keys

pub entered-read : {m : List ℕ} {xs : List Key} (k : Key) (e : ℕ) → Table m xs → KeyIn k →
    length (enter_key xs k).keys ≤ max_terms → EnteredIn m xs k e
entered-read {m} {xs} k e T K few = go (entry xs k)
  where
    go : Entry xs k → EnteredIn m xs k e
    go (met h s) =
        let is = told-met m (code_of k) e (place k T K) (omega arith) in
        record { outcome-is = rw is; table = rw (is, s) T }
    go (new h s) =
        let l = simp (s, length-append) at few in
        let is = told-new m (code_of k) e (place k T K ∙ omega arith) (omega arith) in
        record { outcome-is = rw is (ap (read e) (omega arith)); table = rw (is, s) (table_more k T K (omega arith)) }

pub entered-full : {m : List ℕ} {xs : List Key} (k : Key) (e : ℕ) → Table m xs → KeyIn k →
    max_terms < length (enter_key xs k).keys → (entered m (code_of k) e).outcome ≡ refused 23 (e - 1)
entered-full {m} {xs} k e T K full = go (entry xs k)
  where
    go : Entry xs k → (entered m (code_of k) e).outcome ≡ refused 23 (e - 1)
    go (met h s) = absurd (let l = rw s at full in omega arith)
    go (new h s) =
        let l = simp (s, length-append) at full in
        rw (told-full m (code_of k) e (place k T K ∙ omega arith) (omega arith))

-- the memory of a reader that begins
pub table-start : Table (replicate memory_cells 0) []
table-start = record {
  cells = length-replicate {A = ℕ} memory_cells 0;
  count = get_or-replicate {A = ℕ} memory_cells max_terms 0 0 (omega arith);
  few = omega arith;
  held = refl;
  keys = tt;
}

one_of : (P : List ℕ → Type 0) (s t : Bool) (x y z : Told) → P x.memory → P y.memory → P z.memory → P (cond s x (cond t y z)).memory
one_of P true t x y z p q r = p
one_of P false true x y z p q r = q
one_of P false false x y z p q r = r

-- all that may happen to the memory
after : (P : List ℕ → Type 0) (m : List ℕ) (key e : ℕ) → P m → P (set (set m (count_in m) key) max_terms (count_in m + 1)) →
    P (entered m key e).memory
unfolding entered
after P m key e p q = one_of P (ltb (place_in (take (count_in m) m) key) (count_in m)) (leb max_terms (count_in m)) _ _ _ p p q

-- the cells behind the count are another's
pub entered-kept : (m : List ℕ) (key e j : ℕ) → max_terms < j → count_in m ≤ max_terms → get_or (entered m key e).memory j 0 ≡ get_or m j 0
entered-kept m key e j h c =
    after (λ (n : List ℕ). get_or n j 0 ≡ get_or m j 0) m key e refl
    (get_or-set_other (set m (count_in m) key) max_terms j (count_in m + 1) 0 (omega arith) ∙ get_or-set_other m (count_in m) j key 0 (omega arith))

pub entered-length : (m : List ℕ) (key e : ℕ) → length (entered m key e).memory ≡ length m
entered-length m key e = after (λ (n : List ℕ). length n ≡ length m) m key e refl (simp length-set)
