-- What each row leaves of a sheet to which it doesn't apply.
-- Assumes nothing.
use Prim.Native.Nat.{ℕ, zero, suc, ◌≤◌, ◌<◌}
use mathlib.Core.Path.{◌≡◌, refl}
use mathlib.Core.Bool.{Bool, true, false, ◌||◌, true≢false}
use mathlib.Core.List.{List}
use lib.Dec.{ltb}
use lib.ListN.{length, get_or}
use native.Mathlib.Omega.{arith}
use borrow.Author.Tests.{ltb-false, leb-false, eqb-true, eqb-false, not-false}
use Rattle.sheet.specs.declared.Fields.{Fields}
use Rattle.sheet.specs.Limits.{max_terms, max_entries}
use Rattle.sheet.specs.Sheet.{unknown, ArgumentsBelow, of-unknown, of_number, of_shift, of-apply, of-apply2}
use Rattle.sheet.specs.Decode.{stated_terms, stated_entries, term_kinds, decode_term, Sized}
use Rattle.grounds.specs.Rows.{non_zero, not_below, wrong_length, wrong_shape, wrong_kinds, wrong_term, wrong_entry}

pub neither : (a b : Bool) → a || b ≡ false → (a ≡ false) × (b ≡ false)
neither true b e = absurd (true≢false e)
neither false b e = (refl, e)

last-two : (x a b : Bool) → x || a || b ≡ false → (a ≡ false) × (b ≡ false)
last-two x a b e = let (rest, last) = neither (x || a) b e in ((neither x a rest).1, last)

below : (a n : ℕ) → not_below a n ≡ false → a < n
below a n e = leb-false n a e

pub length-fine : (b : List ℕ) → wrong_length b ≡ false → 6 ≤ length b
unfolding wrong_length
length-fine b e = ltb-false _ _ (neither _ _ e).0

-- what refusal 12 leaves
pub record Shaped (b : List ℕ) : Type 0 where
  pub some : 1 ≤ stated_terms b
  pub terms : stated_terms b ≤ max_terms
  pub entries : stated_entries b ≤ max_entries
  pub sized : Sized b

pub shape-fine : (b : List ℕ) → wrong_shape b ≡ false → Shaped b
unfolding wrong_shape
shape-fine b e =
    let (e₁, long) = neither _ _ e in
    let (e₂, five) = neither _ _ e₁ in
    let (e₃, entries) = neither _ _ e₂ in
    let (none, terms) = neither _ _ e₃ in
    let some : stated_terms b ≡ 0 → ⊥ = eqb-false _ _ none in
    record {
      some = omega arith;
      terms = ltb-false _ _ terms;
      entries = ltb-false _ _ entries;
      sized = record { whole = eqb-true _ _ (not-false _ long) };
    }

pub term-fine : (i : ℕ) (f : Fields) → wrong_term i f ≡ false → ArgumentsBelow i (decode_term f)
unfolding wrong_term decode_term
term-fine i f = go f.kind
  where
    go : (k : ℕ) → get_or (wrong_kinds i f) k true ≡ false → ArgumentsBelow i (get_or (term_kinds f) k unknown)
    go zero e = of-unknown
    go (suc zero) e = of_number
    go (suc (suc zero)) e = of_shift (below f.a i (neither (non_zero f.symbol || non_zero f.b) _ e).1)
    go (suc (suc (suc zero))) e = of-apply (below f.a i (neither (non_zero f.b || non_zero f.c) _ e).1)
    go (suc (suc (suc (suc zero)))) e =
        let (a, b) = last-two (non_zero f.c) (not_below f.a i) (not_below f.b i) e in of-apply2 (below f.a i a) (below f.b i b)
    go (suc (suc (suc (suc (suc k))))) e = absurd (true≢false e)

pub entry-fine : (T : ℕ) (f : Fields) → wrong_entry T f ≡ false → (f.a < T) × (f.b < T)
unfolding wrong_entry
entry-fine T f e = let (a, b) = last-two (ltb 3 f.kind || non_zero f.symbol) _ _ e in (below _ _ a, below _ _ b)
