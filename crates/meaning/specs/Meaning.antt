-- What it means to hold, after document 01's section of that name. The value of a term is n/D.
-- Assumes nothing.
use Rattle.std.specs.Prelude.{ℕ, ◌≤◌, ◌<◌, ◌≡◌, true, ℤ, pos, ◌+ℤ◌, ◌*ℤ◌}
use Rattle.whole.specs.Whole.{◌≼◌, ◌≺◌}
use Rattle.order.specs.First.{Set, number as by_number, First}
use Rattle.sheet.specs.Sheet.{Term, unknown, number, shift, apply, apply2, Relation, equal, unequal, at_most, less, Entry, Sheet, count_terms, count_entries, term_at, entry_at}

-- a number term c has n = cD; a shift has n = n(a) + cD
abbrev pub Defined : ℕ → (ℕ → ℤ) → ℤ → Term → Type 0
Defined D n own unknown = Unit
Defined D n own (number c) = own ≡ c *ℤ pos D
Defined D n own (shift a c) = own ≡ n a +ℤ c *ℤ pos D
Defined D n own (apply symbol a) = Unit
Defined D n own (apply2 symbol a b) = Unit

-- two terms both of kind 3, or both of kind 4, with the same symbol, whose arguments are alike, first with first and second with second
pub data SameInput (Alike : ℕ → ℕ → Type 0) : Term → Term → Type 0 where
  one : {symbol a a' : ℕ} → Alike a a' → SameInput Alike (apply symbol a) (apply symbol a')
  two : {symbol a b a' b' : ℕ} → Alike a a' → Alike b b' → SameInput Alike (apply2 symbol a b) (apply2 symbol a' b')

-- the entry is true of n(a) and n(b) + cD
abbrev pub Compares : Relation → ℤ → ℤ → Type 0
Compares equal x y = x ≡ y
Compares unequal x y = x ≡ y → ⊥
Compares at_most x y = x ≼ y
Compares less x y = x ≺ y

abbrev pub EntryTrue : ℕ → (ℕ → ℤ) → Entry → Type 0
EntryTrue D n e = Compares e.relation (n e.a) (n e.b +ℤ e.c *ℤ pos D)

-- D and n meet the sheet with all its terms and only the entries of S
pub record Meet (s : Sheet) (S : Set) (D : ℕ) (n : ℕ → ℤ) : Type 0 where
  pub positive : 1 ≤ D
  pub defined : (i : ℕ) → i < count_terms s → Defined D n (n i) (term_at s i)
  pub functions : (i j : ℕ) → i < count_terms s → j < count_terms s → SameInput (λ a b. n a ≡ n b) (term_at s i) (term_at s j) → n i ≡ n j
  pub entries : (e : ℕ) → e < count_entries s → S e ≡ true → EntryTrue D n (entry_at s e)

-- a whole number D ≥ 1 and one whole number n per term exist; a sheet holds when it does so on `every` entry
pub record Holds (s : Sheet) (S : Set) : Type 0 where
  pub D : ℕ
  pub n : ℕ → ℤ
  pub meet : Meet s S D n

-- a set of entries clashes when the sheet with all its terms and only those entries doesn't hold
abbrev pub Clashes : Sheet → Set → Type 0
Clashes s S = Holds s S → ⊥

-- the entries of S are the first list in the mission's order that clashes by itself
abbrev pub FirstClash : Sheet → Set → Type 0
FirstClash s S = First (Clashes s) (count_entries s) by_number S
