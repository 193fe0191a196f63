-- Numbers, shifts and entries of a sheet that bytes decode to are of two bytes.
-- Assumes nothing.
use Prim.Native.Nat.{ℕ, zero, suc, ◌+◌, ◌-◌, ◌*◌, ◌≤◌, ◌<◌}
use mathlib.Core.Logic.{◌⊎◌, inl, inr}
use mathlib.Core.List.{List}
use lib.ListN.{get_or}
use lib.IntN.{sub_ℕ}
use native.Mathlib.Omega.{arith}
use Rattle.whole.proofs.Order.{order}
use Rattle.whole.proofs.Parts.{sub_parts}
use Rattle.big.specs.Big.{Bytes, signed_of}
use Rattle.big.proofs.Reading.{big-bound}
use Rattle.big.proofs.Signed.{signed_low, signed_high}
use Rattle.sheet.specs.declared.Fields.{Fields}
use Rattle.sheet.specs.Sheet.{Term, unknown, number, shift, apply, apply2, Entry, term_at, entry_at}
use Rattle.sheet.specs.Decode.{fields_at, term_kinds, decode_term, decode_entry, each, sheet_of, term_place, entry_place, stated_terms, stated_entries}
use Rattle.strides.specs.Trodden.{Small}
use Rattle.strides.proofs.Gaps.{parts-most}

signed-small : (v : ℕ) → v < 65536 → Small (signed_of 2 v)
signed-small v l = go (order 65536 (2 * v))
  where
    go : (65536 ≤ 2 * v) ⊎ (2 * v < 65536) → Small (signed_of 2 v)
    go (inl h) = rw (signed_high 2 v h) (omega (arith, parts-most (sub_ℕ v 65536) 0 (65536 - v) (omega (arith, sub_parts v 65536))))
    go (inr h) = rw (signed_low 2 v h) (omega (arith, parts-most (sub_ℕ v 0) v 0 (sub_parts v 0)))

-- what holds of each element and past the end holds everywhere
everywhere : {A : Type 0} (P : A → Type 0) (n : ℕ) (f : ℕ → A) {d : A} → P d → ((i : ℕ) → P (f i)) → (i : ℕ) → P (get_or (each n f) i d)
unfolding each
everywhere P zero f p h i = p
everywhere P (suc n) f p h zero = h 0
everywhere P (suc n) f p h (suc i) = everywhere P n (λ k. f (suc k)) p (λ k. h (suc k)) i

abbrev pub SmallTerm : Term → Type 0
SmallTerm unknown = Unit
SmallTerm (number c) = Small c
SmallTerm (shift a c) = Small c
SmallTerm (apply symbol a) = Unit
SmallTerm (apply2 symbol a b) = Unit

small-decoded : (f : Fields) → Small (signed_of 2 f.c) → SmallTerm (decode_term f)
unfolding decode_term
small-decoded f h = go f.kind
  where
    go : (k : ℕ) → SmallTerm (get_or (term_kinds f) k unknown)
    go zero = tt
    go (suc zero) = h
    go (suc (suc zero)) = h
    go (suc (suc (suc zero))) = tt
    go (suc (suc (suc (suc zero)))) = tt
    go (suc (suc (suc (suc (suc k))))) = tt

module _ (b : List ℕ) (B : Bytes b) where
  small_at : (p : ℕ) → Small (signed_of 2 (fields_at b p).c)
  unfolding fields_at
  small_at p = signed-small _ (big-bound b B (p + 4) 2)

  pub small-term : (i : ℕ) → SmallTerm (term_at (sheet_of b) i)
  unfolding sheet_of
  small-term = everywhere SmallTerm (stated_terms b) _ tt (λ i. small-decoded _ (small_at (term_place i)))

  pub small-entry : (e : ℕ) → Small (entry_at (sheet_of b) e).c
  unfolding sheet_of decode_entry
  small-entry = everywhere (λ (x : Entry). Small x.c) (stated_entries b) _ (omega arith) (λ e. small_at (entry_place b e))
