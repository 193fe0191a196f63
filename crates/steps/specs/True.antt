-- What a sheet asks of levels, part by part: v i of the terms, and 0 at the zero level. Together it is the meaning. Then the steps that
-- put each part in.
-- Assumes nothing.
use Rattle.std.specs.Prelude.{ℕ, ◌<◌, ◌≡◌, Bool, true, List, ℤ, pos, ◌+ℤ◌, ◌*ℤ◌}
use Rattle.order.specs.First.{Set}
use Rattle.sheet.specs.Sheet.{Term, Entry, Sheet, count_terms, count_entries, term_at, entry_at}
use Rattle.meaning.specs.Meaning.{Defined, EntryTrue}
use Rattle.settled.specs.Settled.{zero_level, points, TermHeld, EntryHeld}
use Rattle.steps.specs.Step.{Stepped}

-- a = b + c
pub record TieTrue (a b : ℕ) (c : ℤ) (D : ℕ) (v : ℕ → ℤ) : Type 0 where
  pub tied : v a ≡ v b +ℤ c *ℤ pos D

pub record TermTrue (z i : ℕ) (t : Term) (D : ℕ) (v : ℕ → ℤ) : Type 0 where
  pub zero : v z ≡ pos 0
  pub defined : Defined D v (v i) t

pub record TermsTrue (s : Sheet) (D : ℕ) (v : ℕ → ℤ) : Type 0 where
  pub zero : v (zero_level s) ≡ pos 0
  pub defined : (i : ℕ) → i < count_terms s → Defined D v (v i) (term_at s i)

pub record MarkedTrue (mark : Bool) (e : Entry) (D : ℕ) (v : ℕ → ℤ) : Type 0 where
  pub entry : mark ≡ true → EntryTrue D v e

pub record EntriesTrue (s : Sheet) (S : Set) (D : ℕ) (v : ℕ → ℤ) : Type 0 where
  pub entries : (e : ℕ) → e < count_entries s → S e ≡ true → EntryTrue D v (entry_at s e)

-- and what the table then holds, of the first m of a part
pub record MarkedHeld (mark : Bool) (e : Entry) (d : ℕ → ℕ → ℕ) : Type 0 where
  pub entry : mark ≡ true → EntryHeld d e

pub record TermsHeld (s : Sheet) (m : ℕ) (d : ℕ → ℕ → ℕ) : Type 0 where
  pub terms : (i : ℕ) → i < m → TermHeld d (zero_level s) i (term_at s i)

pub record EntriesHeld (s : Sheet) (S : Set) (m : ℕ) (d : ℕ → ℕ → ℕ) : Type 0 where
  pub entries : (e : ℕ) → e < m → S e ≡ true → EntryHeld d (entry_at s e)

-- the steps that put in all terms, the entry e where S has it, and all that S has
abbrev pub TermsPut : Sheet → List ℕ → List ℕ → Bool → Type 0
TermsPut s = Stepped (points s) (TermsTrue s) (TermsHeld s (count_terms s))

abbrev pub MarkedPut : Sheet → Set → ℕ → List ℕ → List ℕ → Bool → Type 0
MarkedPut s S e = Stepped (points s) (MarkedTrue (S e) (entry_at s e)) (MarkedHeld (S e) (entry_at s e))

abbrev pub EntriesPut : Sheet → Set → List ℕ → List ℕ → Bool → Type 0
EntriesPut s S = Stepped (points s) (EntriesTrue s S) (EntriesHeld s S (count_entries s))
