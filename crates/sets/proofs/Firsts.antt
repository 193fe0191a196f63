-- The lowest bit of a word is where its zeros end, and the first tie of a set is the first bit of one of its words.
-- Assumes nothing.
use Prim.Native.Nat.{ℕ, zero, suc, ◌+◌, ◌-◌, ◌/◌, ◌%◌, ◌^◌, ◌≤◌, ◌<◌}
use native.Mathlib.Nat.{pow-suc, lt_of_le_of_lt}
use native.Mathlib.Decide.{dec_lt}
use native.Mathlib.Omega.{arith}
use mathlib.Core.Path.{◌≡◌, refl, sym, ap, ◌∙◌}
use mathlib.Core.Bool.{true, false, true≢false}
use lib.Dec.{eqb}
use lib.Pow.{shr_le}
use lib.Count.{count_trailing_zeros, under}
use Rattle.sets.specs.declared.Ties.{Ties}
use Rattle.sets.specs.Sets.{bit, has, BitFrom, FirstFrom}
use Rattle.std.specs.Prelude.{Some, None}
use Rattle.sets.proofs.Bits.{shr-bit, low_bit, next_bit, zero_bit, small-bit, has-low, has-high}

record Lowest (w z : ℕ) : Type 0 where
  none : (k : ℕ) → k < z → bit w k ≡ false
  here : bit w z ≡ true

-- by the lowest digit d and the lowest bit z of the rest
lowest-under : (w d z : ℕ) → w % 2 ≡ d → (d ≡ 0 → Lowest (w / 2) z) → Lowest w (under d z)
lowest-under w zero z e L = record { none = none; here = next_bit w z ∙ (L refl).here }
  where
    none : (k : ℕ) → k < suc z → bit w k ≡ false
    none zero h = low_bit w ∙ ap (λ (x : ℕ). eqb x 1) e
    none (suc k) h = next_bit w k ∙ (L refl).none k (omega arith)
lowest-under w (suc zero) z e L = record { none = λ k h. absurd (omega arith); here = low_bit w ∙ ap (λ (x : ℕ). eqb x 1) e }
lowest-under w (suc (suc d)) z e L = absurd (omega arith)

lowest : (n w : ℕ) → 0 < w → w < 2 ^ n → Lowest w (count_trailing_zeros n w)
unfolding count_trailing_zeros
lowest zero w p h = absurd (omega arith)
lowest (suc n) w p h =
    lowest-under w (w % 2) (count_trailing_zeros n (w / 2)) refl
    (λ e. lowest n (w / 2) (omega arith) (omega (arith, pow-suc 2 n)))

-- ---- the first bit of a word from a bit on

pub bit-none : (w f : ℕ) → w / 2 ^ f ≡ 0 → BitFrom w f None
bit-none w f e k l m =
    let s : k ≡ f + (k - f) = omega arith in
    ap (bit w) s ∙ sym (shr-bit w f (k - f)) ∙ ap (λ (x : ℕ). bit x (k - f)) e ∙ zero_bit (k - f)

module _ {w : ℕ} (f : ℕ) (h : w < 2 ^ 64) (p : 0 < w / 2 ^ f) where
  abbrev z : ℕ
  z = count_trailing_zeros 64 (w / 2 ^ f)

  L : Lowest (w / 2 ^ f) z
  L = lowest 64 (w / 2 ^ f) p (lt_of_le_of_lt (shr_le w f) h)

  here-is : bit w (f + z) ≡ true
  here-is = sym (shr-bit w f z) ∙ L.here

  pub place-small : f + z < 64
  place-small = go (dec_lt (f + z) 64)
    where
      go : Dec (f + z < 64) → f + z < 64
      go (yes l) = l
      go (no n) = absurd (true≢false (sym here-is ∙ small-bit 64 (f + z) h (omega arith)))

  pub bit-some : BitFrom w f (Some (f + z))
  bit-some = record { below = place-small; from_on = omega arith; none = none; here = here-is }
    where
      none : (k : ℕ) → f ≤ k → k < f + z → bit w k ≡ false
      none k l m =
          let s : k ≡ f + (k - f) = omega arith in
          ap (bit w) s ∙ sym (shr-bit w f (k - f)) ∙ L.none (k - f) (omega arith)

-- ---- the first tie of a set from a tie on

module _ (a : Ties) (from : ℕ) where
  -- it is in the low word
  pub first-low : {r : ℕ} → BitFrom a.low from (Some r) → FirstFrom a from (Some r)
  first-low B =
      let l = B.below in
      record {
        below = omega arith;
        from_on = B.from_on;
        none = λ t k m. has-low a (omega arith) ∙ B.none t k m;
        here = has-low a l ∙ B.here;
      }

  -- in the high word
  pub first-high : {r : ℕ} → 64 ≤ from → BitFrom a.high (from - 64) (Some r) → FirstFrom a from (Some (64 + r))
  first-high {r} h B =
      let l = B.below in
      record {
        below = omega arith;
        from_on = omega (arith, B.from_on);
        none = λ t k m. has-high a (omega arith) (omega arith) ∙ B.none (t % 64) (omega arith) (omega arith);
        here = has-high a (omega arith) (omega arith) ∙ same r l ∙ B.here;
      }
    where
      same : (r : ℕ) → r < 64 → bit a.high ((64 + r) % 64) ≡ bit a.high r
      same r l = let e : (64 + r) % 64 ≡ r = omega arith in ap (bit a.high) e

  -- or nowhere
  pub first-none : 64 ≤ from → BitFrom a.high (from - 64) None → FirstFrom a from None
  first-none h B t k l = has-high a (omega arith) l ∙ B (t % 64) (omega arith) (omega arith)

-- with none in the low word it is what the high one has
module _ (a : Ties) (from : ℕ) (f : from < 64) (B : BitFrom a.low from None) where
  pub low-passed : {r : ℕ} → BitFrom a.high 0 (Some r) → FirstFrom a from (Some (64 + r))
  low-passed {r} C =
      let H : FirstFrom a 64 (Some (64 + r)) = first-high a 64 (omega arith) C in
      record { below = H.below; from_on = omega arith; none = λ t k l. go H t k l (dec_lt t 64); here = H.here }
    where
      go : FirstFrom a 64 (Some (64 + r)) → (t : ℕ) → from ≤ t → t < 64 + r → Dec (t < 64) → has a t ≡ false
      go H t k l (yes m) = has-low a m ∙ B t k m
      go H t k l (no n) = H.none t (omega arith) l

  pub both-passed : BitFrom a.high 0 None → FirstFrom a from None
  both-passed C t k l = go (dec_lt t 64)
    where
      go : Dec (t < 64) → has a t ≡ false
      go (yes m) = has-low a m ∙ B t k m
      go (no n) = first-none a 64 (omega arith) C t (omega arith) l
