-- Sums of gaps: two's complement of five bytes adds up, forwards and backwards, within half of its range.
-- Assumes nothing.
use Prim.Native.Nat.{ℕ, ◌+◌, ◌-◌, ◌*◌, ◌%◌, ◌^◌, ◌≤◌, ◌<◌}
use mathlib.Core.Path.{◌≡◌}
use mathlib.Core.Logic.{◌⊎◌, inl, inr, ⊎_elim}
use lib.IntN.{ℤ, pos, negsuc, neg_ℤ, sub_ℕ, ◌+ℤ◌}
use native.Mathlib.Omega.{arith}
use Rattle.whole.specs.Whole.{plus, minus}
use Rattle.whole.proofs.Order.{order}
use Rattle.whole.proofs.Parts.{sub_parts, add_parts, neg-plus, neg-minus}
use Rattle.big.specs.Big.{signed_of, complement_of}
use Rattle.big.proofs.Signed.{signed_low, signed_high}
use Rattle.big.proofs.Bytes.{complement-difference}
use Rattle.reasons.specs.Rules.{TieWithin}
use Rattle.legs.specs.Legs.{range, gap_for}

-- of all the p and m whose difference a whole number is, its parts are least
pub parts-most : (z : ℤ) (p m : ℕ) → plus z + m ≡ p + minus z → (plus z ≤ p) × (minus z ≤ m)
parts-most (pos n) p m e = omega arith
parts-most (negsuc n) p m e = omega arith

-- how often a gap's number wraps around
abbrev wraps : ℤ → ℕ
wraps (pos n) = 0
wraps (negsuc n) = 1

gap_parts : (c : ℤ) → plus c < range → minus c ≤ range → (gap_for c + minus c ≡ plus c + wraps c * range) × (gap_for c < range) × (wraps c ≤ 1)
unfolding complement_of
gap_parts (pos n) p m = omega arith
gap_parts (negsuc n) p m = omega arith

-- a number that is x - z but for wraps is the gap of the whole number x - z
wrapped : (t k x z : ℕ) (n : ℤ) → plus n + z ≡ x + minus n → t + z ≡ x + k * range → x < range → z < range → t % range ≡ gap_for n
wrapped t k x z n e h p m = complement-difference 5 (t % range) x z n e (omega arith) (go (order z x))
  where
    go : (z ≤ x) ⊎ (x < z) → (t % range + z ≡ x) ⊎ (t % range + z ≡ x + range)
    go (inl l) = inl (omega arith)
    go (inr l) = inr (omega arith)

module _ (x y : ℤ) where
  pub gap-forth : plus x + plus y < range → minus x + minus y < range → (gap_for x + gap_for y) % range ≡ gap_for (x +ℤ y)
  gap-forth up down =
      let p = gap_parts x (omega arith) (omega arith) in
      let q = gap_parts y (omega arith) (omega arith) in
      wrapped (gap_for x + gap_for y) (wraps x + wraps y) _ _ (x +ℤ y) (omega (arith, add_parts x y)) (omega arith) up down

  pub gap_back : plus x + minus y < range → minus x + plus y < range → (gap_for x + (range - gap_for y)) % range ≡ gap_for (x +ℤ neg_ℤ y)
  gap_back up down =
      let p = gap_parts x (omega arith) (omega arith) in
      let q = gap_parts y (omega arith) (omega arith) in
      wrapped (gap_for x + (range - gap_for y)) (wraps x + (1 - wraps y)) (plus x + minus y) (minus x + plus y) (x +ℤ neg_ℤ y)
      (omega (arith, add_parts x (neg_ℤ y), neg-plus y, neg-minus y)) (omega arith) up down

-- the c of a tie, as eight bytes, is its gap but for the range
pub tie-gap : (c : ℕ) → TieWithin (signed_of 8 c) → c % range ≡ gap_for (signed_of 8 c)
tie-gap c w = ⊎_elim high low (order (2 ^ 64) (2 * c))
  where
    low : 2 * c < 2 ^ 64 → c % range ≡ gap_for (signed_of 8 c)
    low h =
        let (p, m) = parts-most (sub_ℕ c 0) c 0 (sub_parts c 0) in
        let e = sub_parts c 0 in
        let (a, b) : TieWithin (sub_ℕ c 0) = rw (signed_low 8 c h) at w in
        rw (signed_low 8 c h) (complement-difference 5 (c % range) c 0 (sub_ℕ c 0) e (omega arith) (inl (omega arith)))

    high : 2 ^ 64 ≤ 2 * c → c % range ≡ gap_for (signed_of 8 c)
    high h =
        let e = sub_parts c (2 ^ 64) in
        let (a, b) : TieWithin (sub_ℕ c (2 ^ 64)) = rw (signed_high 8 c h) at w in
        rw (signed_high 8 c h)
        (complement-difference 5 (c % range) (c + 2 ^ 31 - 2 ^ 64) (2 ^ 31) (sub_ℕ c (2 ^ 64)) (omega arith) (omega arith)
        (⊎_elim (λ l. inl (omega arith)) (λ l. inr (omega arith)) (order (2 ^ 64) c)))
