-- What stands where in a decoded sheet.
-- Assumes nothing.
use Prim.Native.Nat.{ℕ, zero, suc, ◌<◌}
use mathlib.Core.Path.{◌≡◌, refl, ap, ap₂}
use mathlib.Core.List.{List, ◌∷◌}
use lib.ListN.{length, get_or}
use native.Mathlib.Omega.{arith}
use Rattle.sheet.specs.Sheet.{count_terms, count_entries, term_at, entry_at}
use Rattle.sheet.specs.Decode.{stated_terms, stated_entries, term_place, entry_place, fields_at, decode_term, decode_entry, each, sheet_of}

pub length-each : {A : Type 0} (n : ℕ) (f : ℕ → A) → length (each n f) ≡ n
unfolding each
length-each zero f = refl
length-each (suc n) f = ap suc (length-each n (λ i. f (suc i)))

pub get_or-each : {A : Type 0} (n : ℕ) (f : ℕ → A) (d : A) (i : ℕ) → i < n → get_or (each n f) i d ≡ f i
unfolding each
get_or-each zero f d i h = absurd (omega arith)
get_or-each (suc n) f d zero h = refl
get_or-each (suc n) f d (suc i) h = get_or-each n (λ k. f (suc k)) d i (omega arith)

pub each_same : {A : Type 0} (n : ℕ) {f g : ℕ → A} → ((i : ℕ) → i < n → f i ≡ g i) → each n f ≡ each n g
unfolding each
each_same zero h = refl
each_same (suc n) h = ap₂ ◌∷◌ (h 0 (omega arith)) (each_same n (λ i l. h (suc i) (omega arith)))

pub terms-stated : (b : List ℕ) → count_terms (sheet_of b) ≡ stated_terms b
unfolding sheet_of
terms-stated b = length-each (stated_terms b) _

pub entries-stated : (b : List ℕ) → count_entries (sheet_of b) ≡ stated_entries b
unfolding sheet_of
entries-stated b = length-each (stated_entries b) _

pub term-decoded : (b : List ℕ) (i : ℕ) → i < count_terms (sheet_of b) → term_at (sheet_of b) i ≡ decode_term (fields_at b (term_place i))
unfolding sheet_of
term-decoded b i h = get_or-each (stated_terms b) _ _ i (rw (length-each (stated_terms b)) at h)

pub entry-decoded : (b : List ℕ) (e : ℕ) → e < count_entries (sheet_of b) → entry_at (sheet_of b) e ≡ decode_entry (fields_at b (entry_place b e))
unfolding sheet_of
entry-decoded b e h = get_or-each (stated_entries b) _ _ e (rw (length-each (stated_entries b)) at h)
