-- Records of six bytes in a row: how many bytes they are, and where the fields of each stand.
-- Assumes nothing.
use Prim.Native.Nat.{ℕ, zero, suc, ◌+◌, ◌*◌, ◌≤◌, ◌<◌}
use mathlib.Core.Path.{◌≡◌, refl, ap, ◌∙◌}
use mathlib.Core.List.{List, [], ◌∷◌, ◌++◌}
use lib.ListN.{length, get_or, length-append, get_or-append}
use lib.Seq.{get_or-append-add}
use native.Mathlib.Omega.{arith}
use Rattle.big.specs.Big.{Bytes, big_of}
use Rattle.sheet.specs.Decode.{fields_at, each}
use Rattle.written.specs.Written.{in_row}
use Rattle.written.specs.Fields.{EachIn}

-- the same six bytes, the same fields
fields-same : (b b' : List ℕ) (p p' : ℕ) → ((m m' : ℕ) → p ≤ m → m < p + 6 → m + p' ≡ m' + p → get_or b m 0 ≡ get_or b' m' 0) →
    fields_at b p ≡ fields_at b' p'
unfolding fields_at big_of
fields-same b b' p p' h =
    cc (
      h p p' (omega arith) (omega arith) (omega arith),
      h (p + 1) (p' + 1) (omega arith) (omega arith) (omega arith),
      h (p + 2) (p' + 2) (omega arith) (omega arith) (omega arith),
      h (p + 3) (p' + 3) (omega arith) (omega arith) (omega arith),
      h (p + 4 + 0) (p' + 4 + 0) (omega arith) (omega arith) (omega arith),
      h (p + 4 + 1) (p' + 4 + 1) (omega arith) (omega arith) (omega arith),
    )

pub fields-front : (b rest : List ℕ) (p : ℕ) → p + 6 ≤ length b → fields_at (b ++ rest) p ≡ fields_at b p
fields-front b rest p l =
    fields-same (b ++ rest) b p p (λ m m' h k s. get_or-append b rest 0 m (omega arith) ∙ ap (λ (i : ℕ). get_or b i 0) (omega arith))

fields-behind : (front b : List ℕ) (p q : ℕ) → q ≡ length front + p → fields_at (front ++ b) q ≡ fields_at b p
fields-behind front b p q e =
    fields-same (front ++ b) b q p (λ m m' h k s. ap (λ (i : ℕ). get_or (front ++ b) i 0) (omega arith) ∙ get_or-append-add front b m' 0)

pub bytes-append : (b b' : List ℕ) → Bytes b → Bytes b' → Bytes (b ++ b')
bytes-append [] b' B B' i = B' i
bytes-append (x ∷ b) b' B B' zero = B 0
bytes-append (x ∷ b) b' B B' (suc i) = bytes-append b b' (λ j. B (suc j)) B' i

module _ {A : Type 0} where
  pub each_at : (P : A → Type 0) (xs : List A) (d : A) → EachIn P xs → (i : ℕ) → i < length xs → P (get_or xs i d)
  each_at P [] d h i l = absurd (omega arith)
  each_at P (x ∷ xs) d h zero l = h.0
  each_at P (x ∷ xs) d h (suc i) l = each_at P xs d h.1 i (omega arith)

  pub each_of : (P : A → Type 0) (xs : List A) (d : A) → ((i : ℕ) → i < length xs → P (get_or xs i d)) → EachIn P xs
  each_of P [] d h = tt
  each_of P (x ∷ xs) d h = (h 0 (omega arith), each_of P xs d (λ i l. h (suc i) (omega arith)))

  pub each-is : (xs : List A) (d : A) (f : ℕ → A) → ((i : ℕ) → i < length xs → f i ≡ get_or xs i d) → each (length xs) f ≡ xs
  unfolding each
  each-is [] d f h = refl
  each-is (x ∷ xs) d f h = rw (h 0 (omega arith)) (ap (λ (l : List A). x ∷ l) (each-is xs d (λ i. f (suc i)) (λ i l. h (suc i) (omega arith))))

  module _ (record_of : A → List ℕ) (six : (x : A) → length (record_of x) ≡ 6) where
    pub row-length : (xs : List A) → length (in_row record_of xs) ≡ 6 * length xs
    row-length [] = refl
    row-length (x ∷ xs) = simp (length-append, six, row-length xs) (omega arith)

    -- d is never reached
    row_at : (xs : List A) (d : A) (i : ℕ) → i < length xs → fields_at (in_row record_of xs) (6 * i) ≡ fields_at (record_of (get_or xs i d)) 0
    row_at [] d i l = absurd (omega arith)
    row_at (x ∷ xs) d zero l = fields-front (record_of x) (in_row record_of xs) 0 (omega (arith, six x))
    row_at (x ∷ xs) d (suc i) l = fields-behind (record_of x) (in_row record_of xs) (6 * i) (6 * suc i) (omega (arith, six x)) ∙ row_at xs d i (omega arith)

    pub row-bytes : (xs : List A) (d : A) → ((i : ℕ) → i < length xs → Bytes (record_of (get_or xs i d))) → Bytes (in_row record_of xs)
    row-bytes [] d h = λ i. omega arith
    row-bytes (x ∷ xs) d h = bytes-append (record_of x) (in_row record_of xs) (h 0 (omega arith)) (row-bytes xs d (λ i l. h (suc i) (omega arith)))

    -- and behind other bytes
    pub row-fields : (front : List ℕ) (xs : List A) (d : A) (i p : ℕ) → i < length xs → p ≡ length front + 6 * i →
        fields_at (front ++ in_row record_of xs) p ≡ fields_at (record_of (get_or xs i d)) 0
    row-fields front xs d i p l e = fields-behind front (in_row record_of xs) (6 * i) p e ∙ row_at xs d i l
