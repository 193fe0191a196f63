-- A table from which a sheet's values can be read, for a set S of its entries: it is closed, holds each term and each entry of S,
-- passes equalities on, and ties no ≠ entry of S.
-- Assumes nothing.
use Rattle.std.specs.Prelude.{ℕ, ◌+◌, ◌<◌, ◌≡◌, true, ℤ, pos}
use Rattle.whole.specs.Whole.{plus, minus}
use Rattle.closure.specs.Closed.{Closed, AtMost, Below, TiedAt}
use Rattle.closure.specs.Table.{reach}
use Rattle.order.specs.First.{Set}
use Rattle.sheet.specs.Sheet.{Term, unknown, number, shift, apply, apply2, Relation, equal, unequal, at_most, less, Entry, Sheet, count_terms, count_entries, term_at, entry_at}
use Rattle.meaning.specs.Meaning.{SameInput}

-- the points: the terms by their numbers, and behind them the zero level
abbrev pub zero_level : Sheet → ℕ
zero_level s = count_terms s

abbrev pub points : Sheet → ℕ
points s = count_terms s + 1

-- a number is tied to the zero level z, a shift to its term
abbrev pub TermHeld : (ℕ → ℕ → ℕ) → (z i : ℕ) → Term → Type 0
TermHeld d z i unknown = Unit
TermHeld d z i (number c) = TiedAt d i z c
TermHeld d z i (shift a c) = TiedAt d i a c
TermHeld d z i (apply symbol a) = Unit
TermHeld d z i (apply2 symbol a b) = Unit

-- the bounds of an entry; a ≠ entry has none
abbrev pub BoundHeld : (ℕ → ℕ → ℕ) → Relation → (a b : ℕ) → ℤ → Type 0
BoundHeld d equal a b c = TiedAt d a b c
BoundHeld d unequal a b c = Unit
BoundHeld d at_most a b c = AtMost d a b (plus c) (minus c)
BoundHeld d less a b c = Below d a b (plus c) (minus c)

abbrev pub EntryHeld : (ℕ → ℕ → ℕ) → Entry → Type 0
EntryHeld d e = BoundHeld d e.relation e.a e.b e.c

-- two applications of the same input are tied at 0
abbrev pub Saturated : Sheet → (ℕ → ℕ → ℕ) → Type 0
Saturated s d =
    (i j : ℕ) → i < count_terms s → j < count_terms s → SameInput (λ a b. TiedAt d a b (pos 0)) (term_at s i) (term_at s j) → TiedAt d i j (pos 0)

-- no ≠ entry of S is on terms tied at exactly its c
abbrev pub Apart : Sheet → Set → (ℕ → ℕ → ℕ) → Type 0
Apart s S d =
    (e : ℕ) → e < count_entries s → S e ≡ true → (entry_at s e).relation ≡ unequal → TiedAt d (entry_at s e).a (entry_at s e).b (entry_at s e).c → ⊥

pub record Settled (s : Sheet) (S : Set) (d : ℕ → ℕ → ℕ) : Type 0 where
  pub closed : Closed (points s) (reach (points s)) d
  pub terms : (i : ℕ) → i < count_terms s → TermHeld d (zero_level s) i (term_at s i)
  pub entries : (e : ℕ) → e < count_entries s → S e ≡ true → EntryHeld d (entry_at s e)
  pub functions : Saturated s d
  pub apart : Apart s S d
