-- An answer record tells its verdict, and with it D and the values, or the list: no other makes the same bytes.
-- Assumes nothing.
use Prim.Native.Nat.{ℕ, suc, ◌+◌, ◌*◌, ◌^◌, ◌≤◌, ◌<◌}
use mathlib.Core.Path.{◌≡◌, refl, sym, ap}
use mathlib.Core.List.{List, [], ◌∷◌}
use lib.IntN.{ℤ}
use lib.ListN.{length, get_or, take, drop, length-append}
use native.Mathlib.Omega.{arith}
use Rattle.whole.specs.Whole.{plus, minus}
use Rattle.big.specs.Big.{bytes_of}
use Rattle.big.proofs.Bytes.{bytes-length, bytes-inj, complement-inj}
use Rattle.answer.specs.Record.{values_of, holds_record, clashes_record, ValuesWithin, AnswerForm, holds, clashes}

values_length : (ns : List ℤ) → length (values_of ns) ≡ 8 * length ns
unfolding values_of
values_length [] = refl
values_length (n ∷ ns) = simp (length-append, bytes-length, values_length ns) (omega arith)

pub holds-length : (D : ℕ) (ns : List ℤ) → length (holds_record D ns) ≡ 8 + 8 * length ns
unfolding holds_record bytes_of
holds-length D ns = omega (arith, values_length ns)

pub clashes-length : (es : List ℕ) → length (clashes_record es) ≡ 8 + length es
unfolding clashes_record bytes_of
clashes-length es = omega arith

pub verdict-told : (D : ℕ) (ns : List ℤ) (es : List ℕ) → holds_record D ns ≡ clashes_record es → ⊥
unfolding holds_record clashes_record bytes_of
verdict-told D ns es e = omega (arith, ap (λ (b : List ℕ). get_or b 3 0) e)

first_fits : {D : ℕ} {n : ℤ} {ns : List ℤ} → ValuesWithin D (n ∷ ns) → (2 * plus n < 256 ^ 8) × (2 * minus n ≤ 256 ^ 8)
first_fits W = omega (arith, W.above 0 (omega arith), W.below 0 (omega arith))

rest-within : {D : ℕ} {n : ℤ} {ns : List ℤ} → ValuesWithin D (n ∷ ns) → ValuesWithin D ns
rest-within W = record {
  least = W.least;
  most = W.most;
  above = λ i l. W.above (suc i) (omega arith);
  below = λ i l. W.below (suc i) (omega arith);
}

values-inj : {D D' : ℕ} (ns ns' : List ℤ) → ValuesWithin D ns → ValuesWithin D' ns' → values_of ns ≡ values_of ns' → ns ≡ ns'
unfolding values_of bytes_of
values-inj [] [] W W' e = refl
values-inj [] (n ∷ ns) W W' e = absurd (omega (arith, ap length e))
values-inj (n ∷ ns) [] W W' e = absurd (omega (arith, ap length e))
values-inj (n ∷ ns) (n' ∷ ns') W W' e =
    cc (
      complement-inj 8 n n' (first_fits W) (first_fits W') (ap (take 8) e),
      values-inj ns ns' (rest-within W) (rest-within W') (ap (drop 8) e),
    )

pub values-told : (D D' : ℕ) (ns ns' : List ℤ) → ValuesWithin D ns → ValuesWithin D' ns' → holds_record D ns ≡ holds_record D' ns' →
    (D ≡ D') × (ns ≡ ns')
unfolding holds_record bytes_of
values-told D D' ns ns' W W' e = (
  bytes-inj 2 D D' (omega arith) (omega arith) (ap (λ (b : List ℕ). take 2 (drop 4 b)) e),
  values-inj ns ns' W W' (ap (drop 8) e),
)

pub list-told : (es es' : List ℕ) → clashes_record es ≡ clashes_record es' → es ≡ es'
unfolding clashes_record bytes_of
list-told es es' e = ap (drop 8) e

-- the same at once: what bytes of answer form tell, whichever way they have that form
pub data Told : Type 0 where
  holding : (D : ℕ) (ns : List ℤ) → Told
  clashing : (es : List ℕ) → Told

unfoldable pub told : {b : List ℕ} → AnswerForm b → Told
told (holds {D} {ns} _ _ _) = holding D ns
told (clashes {es} _ _) = clashing es

pub tells : {b : List ℕ} (p q : AnswerForm b) → told p ≡ told q
unfolding told
tells p q = go p q refl
  where
    -- over two lists, since two forms of one list can't both be matched
    go : {b c : List ℕ} (p : AnswerForm b) (q : AnswerForm c) → b ≡ c → told p ≡ told q
    go (holds {D} {ns} _ _ W) (holds {D = D'} {ns = ns'} _ _ W') e = let t = values-told D D' ns ns' W W' e in cc
    go (holds {D} {ns} _ _ _) (clashes {es} _ _) e = absurd (verdict-told D ns es e)
    go (clashes {es} _ _) (holds {D} {ns} _ _ _) e = absurd (verdict-told D ns es (sym e))
    go (clashes {es} _ _) (clashes {es = es'} _ _) e = cc (list-told es es' e)
