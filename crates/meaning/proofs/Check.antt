-- A test that hands over the proof where it passes: that values meet a sheet. They pass only if each function answers as it is told to, by its
-- symbol and the values of its arguments.
-- Assumes nothing.
use Prim.Native.Nat.{ℕ, zero, suc, ◌+◌, ◌≤◌, ◌<◌}
use mathlib.Core.Path.{◌≡◌}
use mathlib.Core.Bool.{Bool, true, false, not, false≢true}
use mathlib.Core.Option.{Option, none, some, map}
use lib.Dec.{T, leb, eqb, T_not, leb→le, eqb→eq, eqb_refl}
use lib.IntN.{ℤ, pos, ◌+ℤ◌, ◌*ℤ◌}
use native.Mathlib.Omega.{arith}
use Rattle.whole.specs.Whole.{plus, minus}
use Rattle.whole.proofs.Parts.{parts-inj}
use Rattle.order.specs.First.{Set}
use Rattle.sheet.specs.Sheet.{Term, unknown, number, shift, apply, apply2, Relation, equal, unequal, at_most, less, Entry, Sheet, count_terms, count_entries, term_at, entry_at}
use Rattle.meaning.specs.Meaning.{Defined, SameInput, one, two, Compares, EntryTrue, Meet}

abbrev ◌>>=◌ : {A B : Type 0} → Option A → (A → Option B) → Option B
◌>>=◌ none f = none
◌>>=◌ (some a) f = f a

abbrev test : {P : Type 0} (b : Bool) → (T b → P) → Option P
test true f = some (f tt)
test false f = none

-- a and b are read off what is to be shown
abbrev ordered : {a b : ℕ} → Option (a ≤ b)
ordered {a} {b} = test (leb a b) (leb→le a b)

abbrev pub only_if : {P : Type 0} (b : Bool) → Option P → Option (b ≡ true → P)
only_if true o = map (λ p e. p) o
only_if false o = some (λ e. absurd (false≢true e))

abbrev pub below : {P : ℕ → Type 0} (k : ℕ) → ((i : ℕ) → Option (P i)) → Option ((i : ℕ) → i < k → P i)
below {P} zero f = some (λ i l. absurd (omega arith))
below {P} (suc k) f = do
  p ← f 0
  q ← below k (λ i. f (suc i))
  some (λ i. elim i as (λ m. m < suc k → P m) [ zero ↦ λ l. p | suc j ↦ λ l. q j (omega arith) ])

abbrev same : ℤ → ℤ → Bool
same x y = eqb (plus x + minus y) (plus y + minus x)

abbrev compares : (r : Relation) (x y : ℤ) → Option (Compares r x y)
compares equal x y = test (same x y) (λ t. parts-inj x y (eqb→eq _ _ t))
compares unequal x y = test (not (same x y)) (λ t e. T_not (same x y) t (rw e (eqb_refl (plus y + minus y))))
compares at_most x y = ordered
compares less x y = ordered

-- what the functions of one argument and of two answer
pub record Answers : Type 0 where
  pub one : (symbol : ℕ) → ℤ → ℤ
  pub two : (symbol : ℕ) → ℤ → ℤ → ℤ

module _ (answers : Answers) (D : ℕ) (n : ℕ → ℤ) where
  abbrev entry-true : (e : Entry) → Option (EntryTrue D n e)
  entry-true e = compares e.relation (n e.a) (n e.b +ℤ e.c *ℤ pos D)

  -- what x has to be, as the value of the term
  abbrev value : ℤ → Term → ℤ
  value x unknown = x
  value x (number c) = c *ℤ pos D
  value x (shift a c) = n a +ℤ c *ℤ pos D
  value x (apply symbol a) = answers.one symbol (n a)
  value x (apply2 symbol a b) = answers.two symbol (n a) (n b)

  pub is-defined : (x : ℤ) (t : Term) → x ≡ value x t → Defined D n x t
  is-defined x unknown e = tt
  is-defined x (number c) e = e
  is-defined x (shift a c) e = e
  is-defined x (apply symbol a) e = tt
  is-defined x (apply2 symbol a b) e = tt

  pub is-function : (x y : ℤ) (t u : Term) → x ≡ value x t → y ≡ value y u → SameInput (λ a b. n a ≡ n b) t u → x ≡ y
  is-function x y t u e f (one p) = cc
  is-function x y t u e f (two p q) = cc

  abbrev pub meets : (s : Sheet) (S : Set) → Option (Meet s S D n)
  meets s S = do
    positive ← ordered
    valued ← below (count_terms s) (λ i. compares equal (n i) (value (n i) (term_at s i)))
    entries ← below (count_entries s) (λ e. only_if (S e) (entry-true (entry_at s e)))
    some (record {
      positive = positive;
      defined = λ i l. is-defined (n i) (term_at s i) (valued i l);
      functions = λ i j l k. is-function (n i) (n j) (term_at s i) (term_at s j) (valued i l) (valued j k);
      entries = entries;
    })
