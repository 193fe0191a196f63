-- Values that meet a sheet meet it with the zero level at 0 beside them.
-- Assumes nothing.
use Prim.Native.Nat.{ℕ, ◌<◌}
use mathlib.Core.Path.{◌≡◌, sym, ◌∙◌, ap}
use mathlib.Core.Bool.{cond}
use lib.Dec.{ltb}
use lib.IntN.{ℤ, pos, ◌+ℤ◌, ◌*ℤ◌}
use native.Mathlib.Omega.{arith}
use borrow.Author.Tests.{lt-ltb, le-ltb}
use Rattle.order.specs.First.{Set}
use Rattle.sheet.specs.Sheet.{Term, Relation, Sheet, count_terms, term_at, entry_at, ArgumentsBelow, of-unknown, of_number, of_shift, of-apply, of-apply2, WellFormed}
use Rattle.meaning.specs.Meaning.{Defined, Compares, Meet, Clashes}
use Rattle.meaning.proofs.Meaning.{same-input-below}

-- n below T, and 0 from there on
ground : ℕ → (ℕ → ℤ) → ℕ → ℤ
ground T n i = cond (ltb i T) (n i) (pos 0)

-- values of the terms, and 0 at the zero level
pub record Model (s : Sheet) (S : Set) (D : ℕ) (v : ℕ → ℤ) : Type 0 where
  pub meet : Meet s S D v
  pub zero : v (count_terms s) ≡ pos 0

compared : (r : Relation) {x x' y y' : ℤ} → x' ≡ x → y' ≡ y → Compares r x y → Compares r x' y'
compared r e f h = rw (e, f) h

module _ (s : Sheet) (S : Set) (D : ℕ) (n : ℕ → ℤ) (W : WellFormed s) (M : Meet s S D n) where
  v : ℕ → ℤ
  v = ground (count_terms s) n

  below : (i : ℕ) → i < count_terms s → v i ≡ n i
  unfolding ground v
  below i h = simp (lt-ltb _ _ h)

  zero : v (count_terms s) ≡ pos 0
  unfolding ground v
  zero = simp (le-ltb (count_terms s) (count_terms s) (omega arith))

  defined : (i : ℕ) (t : Term) → i < count_terms s → ArgumentsBelow i t → Defined D n (n i) t → Defined D v (v i) t
  defined i t i< of-unknown h = tt
  defined i t i< of_number h = below i i< ∙ h
  defined i t i< (of_shift {a} a<) h = rw (below i i<, below a (omega arith)) h
  defined i t i< (of-apply a<) h = tt
  defined i t i< (of-apply2 a< b<) h = tt

  grounded : Model s S D v
  grounded =
      record {
        meet =
            record {
              positive = M.positive;
              defined = λ i i<. defined i (term_at s i) i< (W.arguments i i<) (M.defined i i<);
              functions = λ i j i< j< h.
                  below i i< ∙
                  M.functions i j i< j<
                  (same-input-below i j (term_at s i) (term_at s j) (W.arguments i i<) (W.arguments j j<)
                  (λ a b p q e. sym (below a (omega arith)) ∙ e ∙ below b (omega arith))
                  h) ∙
                  sym (below j j<);
              entries = λ e e< h.
                  compared (entry_at s e).relation (below _ (W.left e e<)) (ap (λ (x : ℤ). x +ℤ (entry_at s e).c *ℤ pos D) (below _ (W.right e e<)))
                  (M.entries e e< h);
            };
        zero = zero;
      }

-- so a set that no such levels meet clashes
pub no-model : (s : Sheet) (S : Set) → WellFormed s → ((D : ℕ) (v : ℕ → ℤ) → Model s S D v → ⊥) → Clashes s S
no-model s S W none H = none H.D (v s S H.D H.n W H.meet) (grounded s S H.D H.n W H.meet)
