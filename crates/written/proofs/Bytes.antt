-- The bytes of a sheet: how many they are, that they are bytes, that they decode to the sheet, and that the panel doesn't send them back.
-- Assumes nothing.
use Prim.Native.Nat.{ℕ, ◌+◌, ◌*◌, ◌≤◌, ◌<◌}
use mathlib.Core.Path.{◌≡◌, refl, sym, ap, ap₂, ◌∙◌}
use mathlib.Core.Bool.{false}
use mathlib.Core.List.{List, [], ◌∷◌, ◌++◌}
use lib.ListN.{length, length-append}
use native.Mathlib.Omega.{arith}
use borrow.Author.Tests.{le-ltb, eq-eqb, ne_eqb}
use Rattle.big.specs.Big.{Bytes, big_of, bytes_of}
use Rattle.big.proofs.Bytes as Big
use Rattle.sheet.specs.Limits.{max_terms, max_entries, sheet_length}
use Rattle.sheet.specs.Sheet.{Term, unknown, Entry, Sheet, count_terms, count_entries, term_at, entry_at, WellFormed}
use Rattle.sheet.specs.Decode.{byte_at, stated_terms, stated_entries, term_place, entry_place, fields_at, decode_term, decode_entry, sheet_of}
use Rattle.sheet.proofs.Below.{arguments-wider}
use Rattle.grounds.specs.Rows.{wrong_length, wrong_version, wrong_shape, wrong_term_of, wrong_entry_of}
use Rattle.grounds.specs.Table.{fine, sheet_refusal}
use Rattle.grounds.proofs.Lowest.{lowest-none}
use Rattle.grounds.proofs.Rows.{no_row}
use Rattle.written.specs.Written.{term_bytes, entry_bytes, in_row, front_bytes, sheet_bytes}
use Rattle.written.specs.Fields.{TermIn, EntryIn, FieldsIn}
use Rattle.written.proofs.Row.{fields-front, bytes-append, each_at, each-is, row-length, row-bytes, row-fields}
use Rattle.written.proofs.Records.{term-six, entry-six, more_bytes, term-bytes, term-decoded, term-fine, entry-bytes, entry-decoded, entry-fine}

-- where the entries begin
behind-terms : (s : Sheet) → length (front_bytes s ++ in_row term_bytes s.terms) ≡ 6 + 6 * count_terms s
behind-terms s = simp (length-append, Big.bytes-length, row-length term_bytes term-six) (omega arith)

pub bytes-length : (s : Sheet) → length (sheet_bytes s) ≡ sheet_length (count_terms s) (count_entries s)
bytes-length s = simp (length-append, Big.bytes-length, row-length term_bytes term-six, row-length entry_bytes entry-six) (omega arith)

term-at : (s : Sheet) (i : ℕ) → i < count_terms s → fields_at (sheet_bytes s) (term_place i) ≡ fields_at (term_bytes (term_at s i)) 0
unfolding bytes_of
term-at s i l =
    fields-front (front_bytes s ++ in_row term_bytes s.terms) (in_row entry_bytes s.entries) (term_place i) (omega (arith, behind-terms s))
    ∙ row-fields term_bytes term-six (front_bytes s) s.terms unknown i (term_place i) l refl

entry-at : (s : Sheet) (e : ℕ) → e < count_entries s → fields_at (sheet_bytes s) (entry_place (sheet_bytes s) e) ≡ fields_at (entry_bytes (entry_at s e)) 0
unfolding bytes_of
entry-at s e l =
    row-fields entry_bytes entry-six (front_bytes s ++ in_row term_bytes s.terms) s.entries _ e (entry_place (sheet_bytes s) e) l (omega (arith, behind-terms s))

-- no row of the table applies
no_length : (b : List ℕ) → 6 ≤ length b → big_of b 0 2 ≡ length b → wrong_length b ≡ false
unfolding wrong_length
no_length b h e = rw (le-ltb _ _ h, eq-eqb _ _ e)

no-shape : (b : List ℕ) → 1 ≤ stated_terms b → stated_terms b ≤ max_terms → stated_entries b ≤ max_entries → byte_at b 5 ≡ 0 →
    length b ≡ sheet_length (stated_terms b) (stated_entries b) → wrong_shape b ≡ false
unfolding wrong_shape
no-shape b some terms entries five long =
    rw (ne_eqb (stated_terms b) 0 (λ z. omega arith), le-ltb _ _ terms, le-ltb _ _ entries, five, eq-eqb _ _ long)

module _ (s : Sheet) (formed : WellFormed s) (fields : FieldsIn s) where
  pub bytes-bytes : Bytes (sheet_bytes s)
  bytes-bytes =
      bytes-append (front_bytes s ++ in_row term_bytes s.terms) (in_row entry_bytes s.entries)
      (bytes-append (front_bytes s) (in_row term_bytes s.terms)
      (bytes-append (bytes_of 2 (sheet_length (count_terms s) (count_entries s))) (1 ∷ count_terms s ∷ count_entries s ∷ 0 ∷ []) (Big.bytes-bytes 2 _)
      (more_bytes 1 (count_terms s) (count_entries s) 0 [] (omega arith) (omega arith) (omega arith) (omega arith) (λ i. omega arith)))
      (row-bytes term_bytes term-six s.terms unknown
      (λ i l. term-bytes (arguments-wider (omega arith) (formed.arguments i l)) (each_at TermIn s.terms unknown fields.terms i l))))
      (row-bytes entry_bytes entry-six s.entries _
      (λ e l. entry-bytes (entry_at s e) (omega (arith, formed.left e l)) (omega (arith, formed.right e l))))

  pub bytes-decode : sheet_of (sheet_bytes s) ≡ s
  unfolding sheet_of bytes_of
  bytes-decode =
      ap₂ (λ (terms : List Term) (entries : List Entry). record { terms = terms; entries = entries })
      (each-is s.terms unknown _ (λ i l. ap decode_term (term-at s i l) ∙ term-decoded (term_at s i) (each_at TermIn s.terms unknown fields.terms i l)))
      (each-is s.entries _ _ (λ e l. ap decode_entry (entry-at s e l) ∙ entry-decoded (entry_at s e) (each_at EntryIn s.entries _ fields.entries e l)))

  pub bytes-fine : sheet_refusal (sheet_bytes s) ≡ fine
  unfolding wrong_version wrong_term_of wrong_entry_of big_of bytes_of
  bytes-fine =
      let long = bytes-length s in
      sym
      (no_row (sheet_bytes s)
      (no_length (sheet_bytes s) (omega arith) (omega arith))
      refl
      (no-shape (sheet_bytes s) formed.some formed.terms formed.entries refl long)
      (count_terms s)
      (sym (lowest-none (count_terms s) (wrong_term_of (sheet_bytes s)) (λ i l. rw (term-at s i l) (term-fine (formed.arguments i l)))))
      (omega arith)
      (count_entries s)
      (sym (lowest-none (count_entries s) (wrong_entry_of (sheet_bytes s))
      (λ e l. rw (entry-at s e l) (entry-fine (count_terms s) (entry_at s e) (formed.left e l) (formed.right e l)))))
      (omega arith))
