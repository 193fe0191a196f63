-- What the promise gives to those who use it: no value is past 2 ^ 40, and values that are apart by c are of points tied at c's code.
-- Assumes nothing.
use Prim.Native.Nat.{ℕ, ◌+◌, ◌*◌, ◌≤◌, ◌<◌}
use mathlib.Core.Path.{◌≡◌, sym, ◌∙◌}
use lib.IntN.{ℤ, pos, ◌+ℤ◌, ◌*ℤ◌}
use native.Mathlib.Nat.{mul-le-mul}
use native.Mathlib.Omega.{arith}
use Rattle.whole.specs.Whole.{plus, minus}
use Rattle.whole.proofs.Parts.{plus-zero, sub_parts}
use Rattle.kind.specs.Code.{half, base}
use Rattle.kind.specs.Meets.{whole_of}
use Rattle.kind.proofs.Encode.{code_of}
use Rattle.closure.specs.Closed.{Tied}
use Rattle.closure.specs.Table.{reach}
use Rattle.levels.specs.Level.{whole_at}
use Rattle.levels.specs.Values.{Values}

-- up to 129 points, within 1099511627776 = 2 ^ 40
pub limit : (N : ℕ) (d : ℕ → ℕ → ℕ) (z : ℕ) (n : ℕ → ℤ) → Values N (reach N) d z n → N ≤ 129 → (i : ℕ) → i < N
    → (plus (n i) ≤ 1099511627776) × (minus (n i) ≤ 1099511627776)
limit N d z n P h i a =
    let k : 3 * reach N + 2 ≤ 3 * reach 129 + 2 = omega arith in
    let p : N * N * (3 * reach N + 2) ≤ 129 * 129 * (3 * reach 129 + 2) = mul-le-mul (mul-le-mul h h) k in
    (omega (arith, P.above i a), omega (arith, P.below i a))

module _ (N R : ℕ) (d : ℕ → ℕ → ℕ) (z : ℕ) (n : ℕ → ℤ) (P : Values N R d z n) (i j : ℕ) (a : i < N) (b : j < N) where
  -- values that are apart by exactly c are of points tied at c: so a ≠ entry that the verdict passed is met
  pub apart-codes : (c : ℤ) → n i ≡ n j +ℤ c *ℤ pos (N * N) → (d i j ≡ code_of c) × (d j i + code_of c ≡ base + base)
  apart-codes c e =
      let (t, w) = P.apart i j c a b e in
      let p : plus (whole_of (d i j)) + half ≡ whole_at (d i j) + minus (whole_of (d i j)) = sub_parts (whole_at (d i j)) half in
      let q : plus c + half ≡ whole_at (d i j) + minus c = rw w at p in
      (omega (arith, t.even, q), omega (arith, t.even, t.back, q))

  -- the values of untied points differ, and by no whole number either
  pub untied-differ : (Tied d i j → ⊥) → (c : ℤ) → n i ≡ n j +ℤ c *ℤ pos (N * N) → ⊥
  untied-differ u c e = let (t, w) = P.apart i j c a b e in u t

  -- equal values are of points that are tied at 0: so applications of equal arguments are tied, and the values are loose
  pub equal-codes : n i ≡ n j → (d i j ≡ base) × (d j i ≡ base)
  equal-codes e =
      let (p, q) = apart-codes (pos 0) (e ∙ sym (plus-zero (n j) (N * N))) in
      (p, omega arith)
