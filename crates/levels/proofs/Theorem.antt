-- The values of a closed table keep what is promised of them.
-- Assumes nothing.
use Prim.Native.Nat.{ℕ, ◌+◌, ◌*◌, ◌%◌, ◌≤◌, ◌<◌}
use mathlib.Core.Path.{◌≡◌, sym, ◌∙◌, ap}
use mathlib.Core.Logic.{⊎_elim}
use lib.IntN.{ℤ, pos, negsuc, ◌+ℤ◌, ◌*ℤ◌}
use mathlib.Core.Bool.{true≢false}
use native.Mathlib.Nat.{mul-le-mul_left, mod-eq_of_lt, add-mul-mod_self_left, eq_of_mul-eq-mul_right, mul-pos}
use native.Mathlib.Omega.{arith}
use Rattle.whole.specs.Whole.{plus, minus}
use Rattle.whole.proofs.Parts.{moved, parts-inj, scaled, sub_parts}
use Rattle.whole.proofs.Order.{order}
use Rattle.kind.specs.Code.{none, half}
use Rattle.kind.specs.Meets.{Meets, whole_of}
use Rattle.kind.proofs.Flat.{meets}
use Rattle.closure.specs.Closed.{Closed, Tied, tie}
use Rattle.closure.proofs.Ties.{tie-tied, tied-tie, tied?}
use Rattle.levels.specs.Level.{whole_at, total_of, lowest_of, level_of, value_of}
use Rattle.levels.specs.Values.{Values}
use Rattle.levels.proofs.Sums.{sum-le, sum_lt}
use Rattle.levels.proofs.Rows.{tied-there, tied-refl, tied-sym, tied-trans, term, term-le, term-lt, term-low, term-high}
use Rattle.levels.proofs.First.{first-true, first-low, first_below}

-- the remainder tells the numbers below N apart
remainder : (N p q u v : ℕ) → p < N → q < N → p + N * u ≡ q + N * v → p ≡ q
remainder N p q u v a b e =
    sym (mod-eq_of_lt a) ∙ sym (add-mul-mod_self_left p N u) ∙ ap (λ (n : ℕ). n % N) e ∙ add-mul-mod_self_left q N v ∙ mod-eq_of_lt b

-- a difference is no larger than what bounds it
plus-near : (x : ℤ) (a b k : ℕ) → plus x + b ≡ a + minus x → a ≤ b + k → plus x ≤ k
plus-near (pos n) a b k e h = omega arith
plus-near (negsuc n) a b k e h = omega arith

minus-near : (x : ℤ) (a b k : ℕ) → plus x + b ≡ a + minus x → b ≤ a + k → minus x ≤ k
minus-near (pos n) a b k e h = omega arith
minus-near (negsuc n) a b k e h = omega arith

module _ (N R : ℕ) (d : ℕ → ℕ → ℕ) (C : Closed N R d) where
  lowest-below : (i : ℕ) → lowest_of d i ≤ i
  lowest-below i = omega (arith, first_below (λ k. tie (d i k) (d k i)) i 0)

  lowest-tied : (i : ℕ) → i < N → Tied d i (lowest_of d i)
  lowest-tied i a = tie-tied d i (lowest_of d i) (first-true (λ k. tie (d i k) (d k i)) i 0 i (omega arith) (tied-tie d i i (tied-refl N R d C i a)))

  -- tied points have one lowest point
  lowest-least : (i j : ℕ) → i < N → j < N → Tied d i j → lowest_of d i ≤ lowest_of d j
  lowest-least i j a b t =
      let q : ℕ = lowest_of d j in
      ⊎_elim (λ h. h)
      (λ h.
      let u : Tied d i q = tied-trans N R d C i q j a (omega (arith, lowest-below j)) b t (lowest-tied j b) in
      absurd (true≢false (sym (tied-tie d i q u) ∙ first-low (λ k. tie (d i k) (d k i)) i 0 q (omega arith) h)))
      (order (lowest_of d i) q)

  abbrev x : ℕ → ℕ
  x i = level_of N R d i

  module _ (i j : ℕ) (a : i < N) (b : j < N) where
    same-lowest : Tied d i j → lowest_of d i ≡ lowest_of d j
    same-lowest t = omega (arith, lowest-least i j a b t, lowest-least j i b a (tied-sym N R d C i j t))

    -- every cell is met: by tied points as their lowest point is one, by others with room for any two
    tight : d i j < none → Tied d i j → x i + half * (N * N) ≤ x j + whole_at (d i j) * (N * N)
    unfolding level_of
    tight p t =
        omega (
          arith,
          same-lowest t,
          mul-le-mul_left N (sum-le N half (whole_at (d i j)) (term N R d C i) (term N R d C j) (term-le N R d C i j a b p)),
        )

    loose : d i j < none → (Tied d i j → ⊥) → x i + half * (N * N) < x j + whole_at (d i j) * (N * N)
    unfolding level_of
    loose p n =
        omega (
          arith,
          lowest-below i,
          mul-le-mul_left N (sum_lt N half (whole_at (d i j)) i (term N R d C i) (term N R d C j) a (term-le N R d C i j a b p) (term-lt N R d C i j a b p n)),
        )

    line : d i j < none → x i + d i j % 2 + half * (N * N) ≤ x j + whole_at (d i j) * (N * N)
    line p = go (tied? d i j)
      where
        go : Dec (Tied d i j) → x i + d i j % 2 + half * (N * N) ≤ x j + whole_at (d i j) * (N * N)
        go (yes t) = omega (arith, tight p t, t.even)
        go (no n) = omega (arith, loose p n)

    near : x i ≤ x j + N * N * (3 * R + 2)
    unfolding level_of
    near =
        omega (
          arith,
          lowest-below i,
          mul-le-mul_left N
              (sum-le N 0 (3 * R + 1) (term N R d C i) (term N R d C j) (λ s l. omega (arith, term-high N R d C i s a l, term-low N R d C j s b l))),
          mul-le-mul_left N a,
        )

    -- of levels that are apart by parts of N * N, the remainder is the lowest point
    apart-tied : (u v : ℕ) → x i + u * (N * N) ≡ x j + v * (N * N) → Tied d i j
    unfolding level_of
    apart-tied u v e =
        let p : lowest_of d i ≤ i = lowest-below i in
        let q : lowest_of d j ≤ j = lowest-below j in
        let s : lowest_of d i ≡ lowest_of d j =
        remainder N (lowest_of d i) (lowest_of d j) (total_of N R (d i) + u * N) (total_of N R (d j) + v * N) (omega arith) (omega arith) (omega arith) in
        tied-trans N R d C i j (lowest_of d i) a b (omega arith) (lowest-tied i a) (tied-sym N R d C j (lowest_of d i) (rw s (lowest-tied j b)))

  tied-line : (i j : ℕ) → i < N → j < N → Tied d i j → x i + half * (N * N) ≡ x j + whole_at (d i j) * (N * N)
  tied-line i j a b t =
      let back : whole_at (d i j) + whole_at (d j i) ≡ half + half = omega arith in
      let u : Tied d j i = tied-sym N R d C i j t in
      omega (
        arith,
        tight i j a b (tied-there N R d C i j a b t) t,
        tight j i b a (tied-there N R d C j i b a u) u,
        ap (λ (n : ℕ). n * (N * N)) back,
      )

  module _ (z : ℕ) (c : z < N) where
    abbrev n : ℕ → ℤ
    n i = value_of N R d z i

    parts : (i : ℕ) → plus (n i) + x z ≡ x i + minus (n i)
    parts i = sub_parts (x i) (x z)

    n-meets : (i j : ℕ) → i < N → j < N → Meets (N * N) (d i j) (n i) (n j)
    n-meets i j a b = meets λ p. record { line = omega (arith, line i j a b p, parts i, parts j) }

    n-apart : (i j : ℕ) (c : ℤ) → i < N → j < N → n i ≡ n j +ℤ c *ℤ pos (N * N) → Tied d i j × (whole_of (d i j) ≡ c)
    n-apart i j c a b e =
        let f : x i + minus c * (N * N) ≡ x j + plus c * (N * N) =
        omega (arith, ap plus e, ap minus e, moved (n j) c (N * N), parts i, parts j) in
        let t : Tied d i j = apart-tied i j a b (minus c) (plus c) f in
        let g : whole_at (d i j) + minus c ≡ half + plus c =
        eq_of_mul-eq-mul_right (N * N) (mul-pos (omega arith) (omega arith)) _ _ (omega (arith, f, tied-line i j a b t)) in
        (t, parts-inj _ _ (omega (arith, g, sub_parts (whole_at (d i j)) half)))

    pub values : Values N R d z (value_of N R d z)
    values = record {
      zero = parts-inj _ _ (omega (arith, parts z));
      meets = n-meets;
      exact = λ i j a b t. parts-inj _ _ (omega (arith, tied-line i j a b t, scaled (whole_at (d i j)) half (N * N) (n j), parts i, parts j));
      apart = n-apart;
      above = λ i a. plus-near (n i) (x i) (x z) _ (parts i) (near i z a c);
      below = λ i a. minus-near (n i) (x i) (x z) _ (parts i) (near z i c a);
    }
