-- The rows of a closed table, term by term.
-- Assumes nothing.
use Prim.Native.Nat.{ℕ, ◌+◌, ◌≤◌, ◌<◌}
use mathlib.Core.Path.{◌≡◌}
use mathlib.Core.Logic.{⊎_elim}
use native.Mathlib.Omega.{arith}
use borrow.Author.Tests.{lt-ltb, le-ltb}
use Rattle.whole.proofs.Order.{order}
use Rattle.kind.specs.Code.{none, half, base}
use Rattle.kind.proofs.Codes.{there, sum-adds, sum-halves}
use Rattle.closure.specs.Closed.{Closed, Tied}
use Rattle.closure.proofs.Ties.{round}
use Rattle.levels.specs.Level.{whole_at, least_of, term_of, other_of}
use Rattle.levels.proofs.Sums.{least_zero, least-le, le-least}

pub term-there : (o g : ℕ) → g < none → term_of o g ≡ whole_at g
unfolding term_of
term-there o g h = simp (lt-ltb g none h)

pub term-none : (o g : ℕ) → none ≤ g → term_of o g ≡ o
unfolding term_of
term-none o g h = simp (le-ltb g none h)

module _ (N R : ℕ) (d : ℕ → ℕ → ℕ) (C : Closed N R d) where
  -- no sum stops at 0
  wide : (i j k : ℕ) → i < N → j < N → k < N → base ≤ d i k + d k j
  wide i j k a b c = omega (arith, (C.range i k a c).low, (C.range k j c b).low, C.small)

  -- over k, where both gaps are there
  tri-there : (i j k : ℕ) → i < N → j < N → k < N → d i k < none → d k j < none → d i j < none
  tri-there i j k a b c p q =
      omega (arith, C.tri i j k a b c, sum-adds (d i k) (d k j) p q (wide i j k a b c), (C.range i k a c).high p, (C.range k j c b).high q, C.small)

  tri-whole : (i j k : ℕ) → i < N → j < N → k < N → d i k < none → d k j < none → whole_at (d i j) + half ≤ whole_at (d i k) + whole_at (d k j)
  tri-whole i j k a b c p q = omega (arith, C.tri i j k a b c, sum-halves (d i k) (d k j) p q (wide i j k a b c))

  -- points with no room between there and back are tied: a strict gap leaves some
  tied_of : (i j : ℕ) → i < N → j < N → d i j < none → d j i < none → whole_at (d i j) + whole_at (d j i) ≤ base → Tied d i j
  tied_of i j a b p q h = record { even = omega (arith, round N R d C i j a b p q); back = omega (arith, round N R d C i j a b p q) }

  untied : (i j : ℕ) → i < N → j < N → d i j < none → d j i < none → (Tied d i j → ⊥) → base < whole_at (d i j) + whole_at (d j i)
  untied i j a b p q n = ⊎_elim (λ h. absurd (n (tied_of i j a b p q h))) (λ h. h) (order (whole_at (d i j) + whole_at (d j i)) base)

  -- tied points
  pub tied-there : (i j : ℕ) → i < N → j < N → Tied d i j → d i j < none
  tied-there i j a b t = omega (arith, (C.range j i b a).low, C.small)

  pub tied-refl : (i : ℕ) → i < N → Tied d i i
  tied-refl i a = record { even = omega (arith, C.same i a); back = omega (arith, C.same i a) }

  pub tied-sym : (i j : ℕ) → Tied d i j → Tied d j i
  tied-sym i j t = omega arith

  -- over k, two ties leave no room between there and back
  pub tied-trans : (i j k : ℕ) → i < N → j < N → k < N → Tied d i k → Tied d k j → Tied d i j
  tied-trans i j k a b c t u =
      let p : d i k < none = tied-there i k a c t in
      let q : d k j < none = tied-there k j c b u in
      let p' : d k i < none = tied-there k i c a (tied-sym i k t) in
      let q' : d j k < none = tied-there j k b c (tied-sym k j u) in
      tied_of i j a b
      (tri-there i j k a b c p q)
      (tri-there j i k b a c q' p')
      (omega (arith, tri-whole i j k a b c p q, tri-whole j i k b a c q' p'))

  -- the least of a row
  least-low : (i : ℕ) → i < N → half ≤ R + least_of N (d i)
  least-low i a = le-least N half R _ (omega arith) (λ k l. omega (arith, (C.range i k a l).low))

  least_step : (i j : ℕ) → i < N → j < N → d i j < none → least_of N (d i) + half ≤ whole_at (d i j) + least_of N (d j)
  least_step i j a b p =
      le-least N _ (whole_at (d i j)) _ (omega (arith, least-le N j (λ s. whole_at (d i s)) b))
      (λ k l.
      there (d j k)
      (λ q. omega (arith, tri-whole i k j a l b p q, least-le N k (λ s. whole_at (d i s)) l))
      (λ q. omega (arith, least_zero N (λ s. whole_at (d i s)))))

  -- the term of s in the total of i
  abbrev pub term : ℕ → ℕ → ℕ
  term i s = term_of (other_of N R (d i)) (d i s)

  pub term-le : (i j : ℕ) → i < N → j < N → d i j < none → (s : ℕ) → s < N → term i s + half ≤ term j s + whole_at (d i j)
  term-le i j a b p s l =
      there (d j s)
      (λ q.
      let r : d i s < none = tri-there i s j a l b p q in
      omega (arith, term-there (other_of N R (d i)) (d i s) r, term-there (other_of N R (d j)) (d j s) q, tri-whole i s j a l b p q))
      (λ q.
      let e : term j s ≡ other_of N R (d j) = term-none (other_of N R (d j)) (d j s) q in
      there (d i s)
      (λ r. omega (arith, term-there (other_of N R (d i)) (d i s) r, least_step i j a b p, least-low i a, (C.range i s a l).high r))
      (λ r. omega (arith, term-none (other_of N R (d i)) (d i s) r, least_step i j a b p)))

  pub term-lt : (i j : ℕ) → i < N → j < N → d i j < none → (Tied d i j → ⊥) → term i i + half < term j i + whole_at (d i j)
  term-lt i j a b p n =
      let e : d i i ≡ base = C.same i a in
      let f : term i i ≡ whole_at (d i i) = term-there (other_of N R (d i)) (d i i) (omega arith) in
      there (d j i)
      (λ q. omega (arith, term-there (other_of N R (d j)) (d j i) q, untied i j a b p q n))
      (λ q. omega (arith, term-none (other_of N R (d j)) (d j i) q, least_step i j a b p, least-low i a))

  -- a term is from -R to 2 R + 1
  pub term-low : (i s : ℕ) → i < N → s < N → half ≤ term i s + R
  term-low i s a l =
      there (d i s)
      (λ r. omega (arith, term-there (other_of N R (d i)) (d i s) r, (C.range i s a l).low))
      (λ r. omega (arith, term-none (other_of N R (d i)) (d i s) r, least-low i a))

  pub term-high : (i s : ℕ) → i < N → s < N → term i s ≤ half + (R + R + 1)
  term-high i s a l =
      there (d i s)
      (λ r. omega (arith, term-there (other_of N R (d i)) (d i s) r, (C.range i s a l).high r))
      (λ r. omega (arith, term-none (other_of N R (d i)) (d i s) r, least_zero N (λ s. whole_at (d i s))))
