-- A sheet that the table doesn't send back is well-formed.
-- Assumes nothing.
use Prim.Native.Nat.{ℕ, ◌<◌}
use mathlib.Core.Path.{◌≡◌}
use mathlib.Core.List.{List}
use lib.Dec.{ltb}
use native.Mathlib.Omega.{arith}
use borrow.Author.Tests.{ltb-false}
use Rattle.sheet.specs.Sheet.{WellFormed}
use Rattle.sheet.specs.Decode.{stated_terms, stated_entries, entry_place, fields_at, decode_entry, sheet_of, Sized}
use Rattle.sheet.proofs.Decode.{terms-stated, entries-stated, term-decoded, entry-decoded}
use Rattle.grounds.specs.Rows.{wrong_length, wrong_version, wrong_shape, wrong_term_of, wrong_entry_of, lowest}
use Rattle.grounds.proofs.Lowest.{lowest-clear}
use Rattle.grounds.proofs.Passed.{shape-fine, term-fine, entry-fine}
use Rattle.grounds.specs.Table.{fine, sheet_refusal}
use Rattle.grounds.proofs.Replies.{passed, last-passed}

pub fine-formed : (b : List ℕ) → sheet_refusal b ≡ fine → Sized b × WellFormed (sheet_of b)
unfolding sheet_refusal wrong_term_of wrong_entry_of decode_entry
fine-formed b e =
    let (_, e₁) = passed (wrong_length b) 10 0 _ e in
    let (_, e₂) = passed (wrong_version b) 11 0 _ e₁ in
    let (shape, e₃) = passed (wrong_shape b) 12 0 _ e₂ in
    let (terms, e₄) = passed (ltb (lowest (stated_terms b) (wrong_term_of b)) (stated_terms b)) 13 _ _ e₃ in
    let entries = last-passed (ltb (lowest (stated_entries b) (wrong_entry_of b)) (stated_entries b)) 14 _ e₄ in
    let shaped = shape-fine b shape in
    let T = terms-stated b in
    let L = entries-stated b in
    let compared : (e : ℕ) → e < stated_entries b → ((fields_at b (entry_place b e)).a < stated_terms b) × ((fields_at b (entry_place b e)).b < stated_terms b) =
    λ e l. entry-fine _ _ (lowest-clear (stated_entries b) (wrong_entry_of b) (ltb-false _ _ entries) e l)
    in (
      shaped.sized,
      record {
        some = omega arith;
        terms = omega arith;
        entries = omega arith;
        arguments = λ i l. rw (term-decoded b i l) (term-fine i _ (lowest-clear (stated_terms b) (wrong_term_of b) (ltb-false _ _ terms) i (omega arith)));
        left = λ e l. rw (entry-decoded b e l, T) (compared e (omega arith)).0;
        right = λ e l. rw (entry-decoded b e l, T) (compared e (omega arith)).1;
      },
    )
