-- The levels, the terms and the entries of the set below a counter, one by one.
-- Assumes nothing.
use Prim.Native.Nat.{ℕ, ◌+◌, ◌^◌, ◌≤◌, ◌<◌}
use mathlib.Core.Path.{◌≡◌, refl}
use mathlib.Core.Bool.{Bool, true, false, ◌&&◌}
use mathlib.Core.List.{List}
use lib.ListN.{get_or}
use borrow.Author.Count.{below_more}
use Rattle.order.specs.First.{Set}
use Rattle.sheet.specs.Sheet.{Term, Entry, Sheet, count_terms, term_at, entry_at}
use Rattle.meaning.specs.Meaning.{Defined, EntryTrue}
use Rattle.meaning.specs.Decides.{Decides}
use Rattle.meaning.proofs.Decides.{refuted, rest}
use Rattle.answer.specs.Levels.{value_at}
use Rattle.meets.specs.Met.{value}
use Rattle.meets.specs.Parts.{Functional, TermsMet, EntriesMet}

-- two tests, both asked for
pub both_told : {A B : Type 0} (r s : Bool) → Decides A r → Decides B s → Decides (A × B) (r && s)
both_told true s D E = rest (D.yes refl) E
both_told false s D E = refuted (λ p. D.no refl p.0)

-- the levels below k are within the limits
pub record Limited (v : List ℕ) (t k : ℕ) : Type 0 where
  pub above : (i : ℕ) → i < k → get_or v i 0 ≤ get_or v t 0 + 2 ^ 40
  pub below : (i : ℕ) → i < k → get_or v t 0 ≤ get_or v i 0 + 2 ^ 40

-- what the code was told of the entry x that it read
pub entry-told : (s : Sheet) (D e : ℕ) (v : List ℕ) {t : ℕ} {x : Entry} {r : Bool} → t ≡ count_terms s → x ≡ entry_at s e
    → Decides (EntryTrue D (value_at v t) x) r → Decides (EntryTrue D (value s v) (entry_at s e)) r
entry-told s D e v p q d = rw (p, q) at d

-- and of the term x
pub term_told : (s : Sheet) (D i : ℕ) (v : List ℕ) {t : ℕ} {x : Term} {r : Bool} → t ≡ count_terms s → x ≡ term_at s i
    → Decides (Defined D (value_at v t) (value_at v t i) x) r → Decides (Defined D (value s v) (value s v i) (term_at s i)) r
term_told s D i v p q d = rw (p, q) at d

module _ {s : Sheet} {S : Set} {D : ℕ} {v : List ℕ} where
  pub entries-more : {e : ℕ} → EntriesMet s S D v e → (S e ≡ true → EntryTrue D (value s v) (entry_at s e)) → EntriesMet s S D v (e + 1)
  entries-more {e} m h = record { entries = below_more _ e m.entries h }

module _ {s : Sheet} {D : ℕ} {v : List ℕ} where
  pub terms-more : {i : ℕ} → TermsMet s D v i → Defined D (value s v) (value s v i) (term_at s i) → Functional s v i → TermsMet s D v (i + 1)
  terms-more {i} m h f = record { defined = below_more _ i m.defined h; functions = below_more _ i m.functions f }
