-- A set is one only, by the ties that it has: words that fit 64 bits, and have the same, are the same.
-- Assumes nothing.
use Prim.Native.Nat.{ℕ, zero, suc, ◌+◌, ◌/◌, ◌%◌, ◌^◌, ◌<◌}
use native.Mathlib.Nat.{mod-lt, div-add-mod', pow-suc}
use native.Mathlib.Omega.{arith}
use mathlib.Core.Path.{◌≡◌, sym, ap₂, ◌∙◌}
use lib.Arith.{lt-one}
use lib.Dec.{eqb, lit<}
use Rattle.sets.specs.declared.Ties.{Ties}
use Rattle.sets.specs.Sets.{bit, has}
use Rattle.sets.proofs.Bits.{low_bit, next_bit, bit-digit, has-low, has-high}

one_word : (n w v : ℕ) → w < 2 ^ n → v < 2 ^ n → ((k : ℕ) → k < n → bit w k ≡ bit v k) → w ≡ v
one_word zero w v p q same = lt-one p ∙ sym (lt-one q)
one_word (suc n) w v p q same =
    let high = one_word n (w / 2) (v / 2) (omega (arith, pow-suc 2 n)) (omega (arith, pow-suc 2 n))
    (λ k l. sym (next_bit w k) ∙ same (suc k) (omega arith) ∙ next_bit v k) in
    let odd : eqb (w % 2) 1 ≡ eqb (v % 2) 1 = sym (low_bit w) ∙ same 0 (omega arith) ∙ low_bit v in
    let low : w % 2 ≡ v % 2 = bit-digit (w % 2) (mod-lt w (lit< tt)) ∙ rw odd (sym (bit-digit (v % 2) (mod-lt v (lit< tt)))) in
    omega (arith, div-add-mod' w 2, div-add-mod' v 2)

-- both words fit
pub record Fits (a : Ties) : Type 0 where
  pub low : a.low < 2 ^ 64
  pub high : a.high < 2 ^ 64

pub one_set : {a b : Ties} → Fits a → Fits b → ((t : ℕ) → has a t ≡ has b t) → a ≡ b
one_set {a} {b} f g same = ap₂ (λ (low high : ℕ). record { low = low; high = high })
    (one_word 64 a.low b.low f.low g.low (λ k l. sym (has-low a l) ∙ same k ∙ has-low b l))
    (one_word 64 a.high b.high f.high g.high high)
  where
    high : (k : ℕ) → k < 64 → bit a.high k ≡ bit b.high k
    high k l =
        let e : (64 + k) % 64 ≡ k = omega arith in
        rw e at (sym (has-high a {t = 64 + k} (omega arith) (omega arith)) ∙ same (64 + k) ∙ has-high b {t = 64 + k} (omega arith) (omega arith))
