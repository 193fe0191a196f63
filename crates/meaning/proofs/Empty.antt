-- With no entries a sheet always holds, so a clashing list has at least one entry: with D = 1 a number is itself, a shift is its argument
-- and c, and every unknown and application is 0.
-- Assumes nothing.
use Prim.Native.Nat.{ℕ, zero, suc, ◌<◌}
use mathlib.Core.Path.{◌≡◌, refl, ap}
use mathlib.Core.Bool.{false, false≢true}
use mathlib.Core.List.{List}
use lib.IntN.{ℤ, pos, ◌+ℤ◌, ◌*ℤ◌}
use native.Mathlib.Omega.{arith}
use Rattle.order.specs.First.{Set, Listed}
use Rattle.order.proofs.Lists.{not-empty}
use Rattle.sheet.specs.Sheet.{Term, unknown, number, shift, apply, apply2, Sheet, count_terms, count_entries, term_at, ArgumentsBelow, of-unknown, of_number, of_shift, of-apply, of-apply2, WellFormed}
use Rattle.meaning.specs.Meaning.{Defined, SameInput, one, two, Holds, Clashes}
use Rattle.meaning.proofs.Meaning.{clashes-upward}

abbrev value : (ℕ → ℤ) → Term → ℤ
value n unknown = pos 0
value n (number c) = c *ℤ pos 1
value n (shift a c) = n a +ℤ c *ℤ pos 1
value n (apply symbol a) = pos 0
value n (apply2 symbol a b) = pos 0

-- values go by arguments below the term, so k turns are enough for the terms below k
level : Sheet → ℕ → ℕ → ℤ
level s zero i = pos 0
level s (suc k) i = value (level s k) (term_at s i)

value_same : {i : ℕ} {m n : ℕ → ℤ} {t : Term} → ((a : ℕ) → a < i → m a ≡ n a) → ArgumentsBelow i t → value m t ≡ value n t
value_same e of-unknown = refl
value_same e of_number = refl
value_same e (of_shift {c} l) = ap (λ (x : ℤ). x +ℤ c *ℤ pos 1) (e _ l)
value_same e (of-apply l) = refl
value_same e (of-apply2 l m) = refl

value-defined : {i : ℕ} {m n : ℕ → ℤ} {t : Term} → ((a : ℕ) → a < i → m a ≡ n a) → ArgumentsBelow i t → Defined 1 n (value m t) t
value-defined e of-unknown = tt
value-defined e of_number = refl
value-defined e (of_shift {c} l) = ap (λ (x : ℤ). x +ℤ c *ℤ pos 1) (e _ l)
value-defined e (of-apply l) = tt
value-defined e (of-apply2 l m) = tt

value-function : (m n : ℕ → ℤ) {R : ℕ → ℕ → Type 0} {t u : Term} → SameInput R t u → value m t ≡ value n u
value-function m n (one p) = refl
value-function m n (two p q) = refl

module _ (s : Sheet) (formed : WellFormed s) where
  settled : (k l i : ℕ) → i < count_terms s → i < k → i < l → level s k i ≡ level s l i
  unfolding level
  settled zero l i h p q = absurd (omega arith)
  settled (suc k) zero i h p q = absurd (omega arith)
  settled (suc k) (suc l) i h p q =
      value_same (λ a b. settled k l a (omega arith) (omega arith) (omega arith)) (formed.arguments i h)

  pub empty_holds : Holds s (λ e. false)
  unfolding level
  empty_holds =
      record {
        D = 1;
        n = λ i. level s (suc i) i;
        meet =
            record {
              positive = omega arith;
              defined = λ i h. value-defined (λ a l. settled i (suc a) a (omega arith) l (omega arith)) (formed.arguments i h);
              functions = λ i j h l same. value-function (level s i) (level s j) same;
              entries = λ e l h. absurd (false≢true h);
            };
      }

  pub clash-some : (A : Set) (b : List ℕ) (k : ℕ) → Clashes s A → Listed (count_entries s) A b k → 0 < k
  clash-some = not-empty (Clashes s) (count_entries s) (clashes-upward s) (λ c. c empty_holds)
