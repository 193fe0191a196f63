-- The values of a settled table meet the sheet: its terms by the ties that the table holds, its functions as equal values are of tied points,
-- its entries by their bounds and its ≠ entries as values that are apart by c are of points tied at c.
-- Assumes nothing.
use Prim.Native.Nat.{ℕ, ◌+◌, ◌*◌, ◌<◌}
use mathlib.Core.Path.{◌≡◌, refl, ◌∙◌, ap}
use lib.IntN.{ℤ, pos, ◌+ℤ◌, ◌*ℤ◌, +ℤ_idl}
use native.Mathlib.Nat.{mul-pos}
use native.Mathlib.Omega.{arith}
use Rattle.whole.proofs.Parts.{plus-zero}
use Rattle.closure.specs.Closed.{TiedAt}
use Rattle.closure.specs.Table.{reach}
use Rattle.levels.specs.Level.{value_of}
use Rattle.levels.specs.Values.{Values}
use Rattle.levels.proofs.Theorem.{values}
use Rattle.levels.proofs.Uses.{apart-codes, equal-codes}
use Rattle.order.specs.First.{Set}
use Rattle.sheet.specs.Sheet.{Term, unknown, number, shift, apply, apply2, Relation, equal, unequal, at_most, less, Sheet, count_terms, term_at, ArgumentsBelow, of_shift, WellFormed}
use Rattle.meaning.specs.Meaning.{Defined, SameInput, Compares, Meet}
use Rattle.meaning.proofs.Meaning.{same-input-below}
use Rattle.settled.specs.Settled.{zero_level, points, TermHeld, BoundHeld, Settled}
use Rattle.settled.proofs.Held.{at-most-met, below-met, tied-met}

module _ (s : Sheet) (S : Set) (d : ℕ → ℕ → ℕ) (W : WellFormed s) (H : Settled s S d) where
  abbrev N : ℕ
  N = points s

  abbrev D : ℕ
  D = N * N

  abbrev n : ℕ → ℤ
  n = value_of N (reach N) d (zero_level s)

  P : Values N (reach N) d (zero_level s) n
  P = values N (reach N) d H.closed (zero_level s) (omega arith)

  positive : 0 < D
  positive = mul-pos (omega arith) (omega arith)

  module _ (i j : ℕ) (a : i < N) (b : j < N) where
    tied : (c : ℤ) → TiedAt d i j c → n i ≡ n j +ℤ c *ℤ pos D
    tied c t = tied-met c t (P.meets i j a b) (P.meets j i b a)

    -- the table's range leaves no room for a code that stops at 0
    apart-tied : (c : ℤ) → n i ≡ n j +ℤ c *ℤ pos D → TiedAt d i j c
    apart-tied c e =
        let (p, q) = apart-codes N (reach N) d (zero_level s) n P i j a b c e in
        let l = (H.closed.range i j a b).low in
        let k = (H.closed.range j i b a).low in
        let m = H.closed.small in
        record { to = record { there = omega arith; bound = omega arith }; back = record { there = omega arith; bound = omega arith } }

    equal-tied : n i ≡ n j → TiedAt d i j (pos 0)
    equal-tied e =
        let (p, q) = equal-codes N (reach N) d (zero_level s) n P i j a b e in
        record { to = record { there = omega arith; bound = omega arith }; back = record { there = omega arith; bound = omega arith } }

    tied-equal : TiedAt d i j (pos 0) → n i ≡ n j
    tied-equal t = tied (pos 0) t ∙ plus-zero (n j) D

    compared : (r : Relation) (c : ℤ) → BoundHeld d r i j c → (r ≡ unequal → TiedAt d i j c → ⊥) → Compares r (n i) (n j +ℤ c *ℤ pos D)
    compared equal c h u = tied c h
    compared unequal c h u = λ e. u refl (apart-tied c e)
    compared at_most c h u = at-most-met c h (P.meets i j a b)
    compared less c h u = below-met c positive h (P.meets i j a b)

  -- a term's number is below the zero level's, and so are its arguments'
  defined : (i : ℕ) (t : Term) → i < count_terms s → ArgumentsBelow i t → TermHeld d (zero_level s) i t → Defined D n (n i) t
  defined i unknown l b h = tt
  defined i (number c) l b h =
      tied i (zero_level s) (omega arith) (omega arith) c h ∙ ap (λ (x : ℤ). x +ℤ c *ℤ pos D) P.zero ∙ +ℤ_idl (c *ℤ pos D)
  defined i (shift a c) l (of_shift k) h = tied i a (omega arith) (omega arith) c h
  defined i (apply symbol a) l b h = tt
  defined i (apply2 symbol a b) l k h = tt

  functions : (i j : ℕ) → i < count_terms s → j < count_terms s → SameInput (λ a b. n a ≡ n b) (term_at s i) (term_at s j) → n i ≡ n j
  functions i j l k e =
      tied-equal i j (omega arith) (omega arith)
      (H.functions i j l k
      (same-input-below i j (term_at s i) (term_at s j) (W.arguments i l) (W.arguments j k) (λ a b p q. equal-tied a b (omega arith) (omega arith)) e))

  pub settled-meets : Meet s S D n
  settled-meets =
      record {
        positive = positive;
        defined = λ i l. defined i (term_at s i) l (W.arguments i l) (H.terms i l);
        functions = functions;
        entries = λ e l h.
            compared _ _ (omega (arith, W.left e l)) (omega (arith, W.right e l)) _ _ (H.entries e l h) (H.apart e l h);
      }
