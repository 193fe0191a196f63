-- Tied points: the test of two codes tells them, and a closed table that holds i = j + c has exactly c between them.
-- Assumes nothing.
use Prim.Native.Nat.{ℕ, ◌+◌, ◌*◌, ◌%◌, ◌≤◌, ◌<◌, min}
use mathlib.Core.Path.{◌≡◌, refl, sym, ◌∙◌}
use mathlib.Core.Bool.{Bool, true, false, cond, true≢false}
use mathlib.Core.Logic.{◌↔◌}
use lib.IntN.{ℤ}
use native.Mathlib.Decide.{ℕ_discrete}
use native.Mathlib.Omega.{arith}
use borrow.Author.Tests.{eq-eqb, ne_eqb}
use Rattle.whole.specs.Whole.{plus, minus}
use Rattle.kind.specs.Code.{base, none}
use Rattle.kind.proofs.Codes.{sum-adds}
use Rattle.closure.specs.Closed.{Closed, Tied, TiedAt, tie, tie_of}

-- the test says that two points are tied
pub tie-tied : (d : ℕ → ℕ → ℕ) (i j : ℕ) → tie (d i j) (d j i) ≡ true → Tied d i j
tie-tied d i j h = go (ℕ_discrete (d i j % 2) 0) (ℕ_discrete (d i j + d j i) (base + base))
  where
    go : Dec (d i j % 2 ≡ 0) → Dec (d i j + d j i ≡ base + base) → Tied d i j
    go (yes e) (yes f) = record { even = e; back = f }
    go (yes e) (no f) = absurd (true≢false (sym h ∙ simp (eq-eqb _ _ e, ne_eqb _ _ f)))
    go (no e) f = absurd (true≢false (sym h ∙ simp (ne_eqb _ _ e)))

pub tied-tie : (d : ℕ → ℕ → ℕ) (i j : ℕ) → Tied d i j → tie (d i j) (d j i) ≡ true
tied-tie d i j t = simp (eq-eqb _ _ t.even, eq-eqb _ _ t.back)

pub tied? : (d : ℕ → ℕ → ℕ) (i j : ℕ) → Dec (Tied d i j)
tied? d i j = go (tie (d i j) (d j i)) refl
  where
    go : (b : Bool) → tie (d i j) (d j i) ≡ b → Dec (Tied d i j)
    go true e = yes (tie-tied d i j e)
    go false e = no (λ t. true≢false (sym (tied-tie d i j t) ∙ e))

module _ (N R : ℕ) (d : ℕ → ℕ → ℕ) (C : Closed N R d) (i j : ℕ) (a : i < N) (b : j < N) where
  -- there and back is not under zero
  pub round : d i j < none → d j i < none → base + base ≤ d i j + d j i + min (d i j % 2) (d j i % 2)
  round p q =
      omega (arith, C.tri i i j a a b, C.same i a, sum-adds (d i j) (d j i) p q (omega (arith, (C.range i j a b).low, (C.range j i b a).low, C.small)))

  -- the look-up answers c exactly where the points are tied at c
  pub tie-at : (c : ℤ) → base + 2 * plus c < none + 2 * minus c → TiedAt d i j c ↔ tie_of d i j + 2 * minus c ≡ base + 2 * plus c
  tie-at c small = (to, from)
    where
      to : TiedAt d i j c → tie_of d i j + 2 * minus c ≡ base + 2 * plus c
      to t =
          let h : base + base ≤ d i j + d j i + min (d i j % 2) (d j i % 2) = round t.to.there t.back.there in
          let p : d i j + 2 * minus c ≤ base + 2 * plus c = t.to.bound in
          let q : d j i + 2 * plus c ≤ base + 2 * minus c = t.back.bound in
          let e : tie (d i j) (d j i) ≡ true = tied-tie d i j (record { even = omega arith; back = omega arith }) in
          rw e (omega arith)

      go : (b : Bool) → tie (d i j) (d j i) ≡ b → cond b (d i j) none + 2 * minus c ≡ base + 2 * plus c → TiedAt d i j c
      go true e f =
          let t : Tied d i j = tie-tied d i j e in
          record {
            to = record { there = omega arith; bound = omega arith };
            back = record { there = omega (arith, t.even, (C.range i j a b).low, C.small); bound = omega (arith, t.back) };
          }
      go false e f = absurd (omega arith)

      from : tie_of d i j + 2 * minus c ≡ base + 2 * plus c → TiedAt d i j c
      from = go (tie (d i j) (d j i)) refl
