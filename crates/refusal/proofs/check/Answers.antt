-- `refusal::check` meets its contract: at each `return` the rows above it don't apply, and the row's own test does.
-- Assumes nothing.
use Rattle.std.proofs.Common.{◌≡◌, ℕ, false, not, List, sym, ap, ◌∙◌, arith}
use borrow.Author.Tests.{eq-eqb, ne_eqb}
use Rattle.sheet.specs.Decode.{byte_at, stated_terms, stated_entries}
use Rattle.grounds.specs.Rows.{wrong_length, wrong_version, wrong_shape, wrong_term_of, wrong_entry_of}
use Rattle.grounds.specs.Table.{fine, sheet_refusal}
use Rattle.grounds.specs.Found.{NoneWrong}
use Rattle.grounds.proofs.Passed.{length-fine, shape-fine}
use Rattle.grounds.proofs.Rows.{row13, row14, no_row, refused-already, row15, all-fine}
use Rattle.refusal.proofs.check.Goals as goal

not11 : (b : List ℕ) → byte_at b 2 ≡ 1 → wrong_version b ≡ false
unfolding wrong_version
not11 b e = ap not (eq-eqb _ _ e)

-- the first three rows don't apply, and no row before the last
record Past (b : List ℕ) : Type 0 where
  not10 : wrong_length b ≡ false
  not11 : wrong_version b ≡ false
  not12 : wrong_shape b ≡ false

no_other : {b : List ℕ} → Past b → NoneWrong (stated_terms b) (wrong_term_of b) → NoneWrong (stated_entries b) (wrong_entry_of b) → fine ≡ sheet_refusal b
no_other past terms entries = no_row _ past.not10 past.not11 past.not12 _ (sym terms) (omega arith) _ (sym entries) (omega arith)

pub returns-then-wrong_length : goal.returns-then-wrong_length
unfolding sheet_refusal
returns-then-wrong_length c = refused-already _ _ 10 0 (rw (sym c.wrong_length.ensures ∙ c.if-wrong_length.true))

pub bounds-sheet-2 : goal.bounds-sheet-2
bounds-sheet-2 c = omega (arith, length-fine _ (sym c.wrong_length.ensures ∙ c.if-wrong_length.false))

pub returns-then-sheet-ne1 : goal.returns-then-sheet-ne1
unfolding sheet_refusal wrong_version
returns-then-sheet-ne1 c =
    refused-already _ _ 11 0 (rw (sym c.wrong_length.ensures ∙ c.if-wrong_length.false, ne_eqb _ _ c.if-sheet-ne1.true))

pub wrong_shape-requires : goal.wrong_shape-requires
wrong_shape-requires c = length-fine _ (sym c.wrong_length.ensures ∙ c.if-wrong_length.false)

pub returns-then-wrong_shape : goal.returns-then-wrong_shape
unfolding sheet_refusal
returns-then-wrong_shape c =
    refused-already _ _ 12 0
    (rw (sym c.wrong_length.ensures ∙ c.if-wrong_length.false, not11 _ c.if-sheet-ne1.false, sym c.wrong_shape.ensures ∙ c.if-wrong_shape.true))

pub wrong_term-requires : goal.wrong_term-requires
wrong_term-requires c = (shape-fine _ (sym c.wrong_shape.ensures ∙ c.if-wrong_shape.false)).sized

pub returns-in-Some : goal.returns-in-Some
returns-in-Some c =
    refused-already _ _ 13 _
    (row13 _ (sym c.wrong_length.ensures ∙ c.if-wrong_length.false) (not11 _ c.if-sheet-ne1.false) (sym c.wrong_shape.ensures ∙ c.if-wrong_shape.false)
    _ c.in-Some.ensures.0 c.in-Some.ensures.1)

pub wrong_entry-requires : goal.wrong_entry-requires
wrong_entry-requires c = (shape-fine _ (sym c.wrong_shape.ensures ∙ c.if-wrong_shape.false)).sized

pub returns-in-Some-wrong_entry : goal.returns-in-Some-wrong_entry
returns-in-Some-wrong_entry c =
    refused-already _ _ 14 _
    (row14 _ (sym c.wrong_length.ensures ∙ c.if-wrong_length.false) (not11 _ c.if-sheet-ne1.false) (sym c.wrong_shape.ensures ∙ c.if-wrong_shape.false)
    _ (sym c.in_default.ensures) (omega arith) _ c.in-Some-wrong_entry.ensures.0 c.in-Some-wrong_entry.ensures.1)

pub returns-then-room-lt-ROOM_NEEDED : goal.returns-then-room-lt-ROOM_NEEDED
returns-then-room-lt-ROOM_NEEDED c =
    let past : Past _ = record { not10 = sym c.wrong_length.ensures ∙ c.if-wrong_length.false; not11 = not11 _ c.if-sheet-ne1.false; not12 = sym c.wrong_shape.ensures ∙ c.if-wrong_shape.false } in
    row15 _ _ (no_other past c.in_default.ensures c.in_default-wrong_entry.ensures) c.if-room-lt-ROOM_NEEDED.true

pub returns-else-room-lt-ROOM_NEEDED : goal.returns-else-room-lt-ROOM_NEEDED
returns-else-room-lt-ROOM_NEEDED c =
    let past : Past _ = record { not10 = sym c.wrong_length.ensures ∙ c.if-wrong_length.false; not11 = not11 _ c.if-sheet-ne1.false; not12 = sym c.wrong_shape.ensures ∙ c.if-wrong_shape.false } in
    all-fine _ _ (no_other past c.in_default.ensures c.in_default-wrong_entry.ensures) c.if-room-lt-ROOM_NEEDED.false
