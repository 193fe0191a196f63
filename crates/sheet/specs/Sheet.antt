-- The abstract sheet: a list of terms and a list of entries. Terms and entries count from 0.
-- Assumes nothing.
use Rattle.std.specs.Prelude.{ℕ, ◌≤◌, ◌<◌, List, ℤ, pos, length, get_or}
use Rattle.sheet.specs.Limits.{max_terms, max_entries}

-- the five kinds of term; a and b are term numbers
pub data Term : Type 0 where
  -- an unknown
  unknown : Term
  -- the number c
  number : (c : ℤ) → Term
  -- term a plus c
  shift : (a : ℕ) (c : ℤ) → Term
  -- symbol applied to a
  apply : (symbol a : ℕ) → Term
  -- symbol applied to a and b
  apply2 : (symbol a b : ℕ) → Term

-- the four kinds of entry: =, ≠, ≤ and <
pub data Relation : Type 0 where
  equal unequal at_most less : Relation

-- an entry compares term a with (term b plus c)
pub record Entry : Type 0 where
  pub relation : Relation
  pub a : ℕ
  pub b : ℕ
  pub c : ℤ

pub record Sheet : Type 0 where
  pub terms : List Term
  pub entries : List Entry

-- T and L
abbrev pub count_terms : Sheet → ℕ
count_terms s = length s.terms

abbrev pub count_entries : Sheet → ℕ
count_entries s = length s.entries

-- the term at a term number below T
abbrev pub term_at : Sheet → ℕ → Term
term_at s i = get_or s.terms i unknown

-- the entry at an entry number below L
abbrev pub entry_at : Sheet → ℕ → Entry
entry_at s e = get_or s.entries e (record { relation = equal; a = 0; b = 0; c = pos 0 })

-- each argument of the term is a term with a number below i
pub data ArgumentsBelow (i : ℕ) : Term → Type 0 where
  of-unknown : ArgumentsBelow i unknown
  of_number : {c : ℤ} → ArgumentsBelow i (number c)
  of_shift : {a : ℕ} {c : ℤ} → a < i → ArgumentsBelow i (shift a c)
  of-apply : {symbol a : ℕ} → a < i → ArgumentsBelow i (apply symbol a)
  of-apply2 : {symbol a b : ℕ} → a < i → b < i → ArgumentsBelow i (apply2 symbol a b)

-- what the panel doesn't send back: counts within the limits, arguments with lower numbers than their term's, entries on terms of the sheet
pub record WellFormed (s : Sheet) : Type 0 where
  pub some : 1 ≤ count_terms s
  pub terms : count_terms s ≤ max_terms
  pub entries : count_entries s ≤ max_entries
  pub arguments : (i : ℕ) → i < count_terms s → ArgumentsBelow i (term_at s i)
  pub left : (e : ℕ) → e < count_entries s → (entry_at s e).a < count_terms s
  pub right : (e : ℕ) → e < count_entries s → (entry_at s e).b < count_terms s
