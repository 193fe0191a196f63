-- From bytes to the abstract sheet. What bytes that the panel sends back would decode to never counts.
-- Assumes nothing.
use Rattle.std.specs.Prelude.{ℕ, zero, suc, ◌+◌, ◌*◌, ◌≡◌, List, [], ◌∷◌, ℤ, length, get_or}
use Rattle.big.specs.Big.{big_of, signed_of}
use Rattle.sheet.specs.declared.Fields.{Fields}
use Rattle.sheet.specs.Limits.{sheet_length}
use Rattle.sheet.specs.Sheet.{Term, unknown, number, shift, apply, apply2, Relation, equal, unequal, at_most, less, Entry, Sheet}

abbrev pub byte_at : List ℕ → ℕ → ℕ
byte_at b i = get_or b i 0

-- T and L as the sheet states them
abbrev pub stated_terms : List ℕ → ℕ
stated_terms b = byte_at b 3

abbrev pub stated_entries : List ℕ → ℕ
stated_entries b = byte_at b 4

-- where the record of a term and that of an entry begin
abbrev pub term_place : ℕ → ℕ
term_place i = 6 + 6 * i

abbrev pub entry_place : List ℕ → ℕ → ℕ
entry_place b e = 6 + 6 * stated_terms b + 6 * e

-- the fields of the record that begins at p: kind, symbol, a, b, c; an entry's second byte stands where a term's symbol does
unfoldable pub fields_at : List ℕ → ℕ → Fields
fields_at b p = record { kind = byte_at b p; symbol = byte_at b (p + 1); a = byte_at b (p + 2); b = byte_at b (p + 3); c = big_of b (p + 4) 2 }

-- c, two's complement
abbrev pub signed_c : Fields → ℤ
signed_c f = signed_of 2 f.c

-- the terms of kind 0, 1, 2, 3 and 4 that the fields make
abbrev pub term_kinds : Fields → List Term
term_kinds f = unknown ∷ number (signed_c f) ∷ shift f.a (signed_c f) ∷ apply f.symbol f.a ∷ apply2 f.symbol f.a f.b ∷ []

unfoldable pub decode_term : Fields → Term
decode_term f = get_or (term_kinds f) f.kind unknown

-- kind 0 is =, 1 is ≠, 2 is ≤, 3 is <
unfoldable pub relation_of : ℕ → Relation
relation_of kind = get_or (equal ∷ unequal ∷ at_most ∷ less ∷ []) kind equal

unfoldable pub decode_entry : Fields → Entry
decode_entry f = record { relation = relation_of f.kind; a = f.a; b = f.b; c = signed_c f }

-- f 0, f 1, .., f (n - 1)
unfoldable pub each : {A : Type 0} → ℕ → (ℕ → A) → List A
each zero f = []
each (suc n) f = f 0 ∷ each n (λ i. f (suc i))

unfoldable pub sheet_of : List ℕ → Sheet
sheet_of b =
    record {
      terms = each (stated_terms b) (λ i. decode_term (fields_at b (term_place i)));
      entries = each (stated_entries b) (λ e. decode_entry (fields_at b (entry_place b e)));
    }

-- the bytes are as many as the stated terms and entries take
pub record Sized (b : List ℕ) : Type 0 where
  pub whole : length b ≡ sheet_length (stated_terms b) (stated_entries b)
