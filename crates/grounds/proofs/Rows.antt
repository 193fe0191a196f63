-- What the table gives where its first rows don't apply.
-- Assumes nothing.
use Prim.Native.Nat.{ℕ, ◌≤◌, ◌<◌}
use mathlib.Core.Path.{◌≡◌}
use mathlib.Core.Bool.{false}
use mathlib.Core.List.{List}
use borrow.Author.Tests.{lt-ltb, le-ltb}
use Rattle.sheet.specs.Limits.{room_needed}
use Rattle.sheet.specs.Decode.{stated_terms, stated_entries}
use Rattle.grounds.specs.Rows.{wrong_length, wrong_version, wrong_shape, wrong_term_of, wrong_entry_of, lowest}
use Rattle.grounds.specs.Table.{fine, refused, sheet_refusal, refusal}

module _ (b : List ℕ) (not10 : wrong_length b ≡ false) (not11 : wrong_version b ≡ false) (not12 : wrong_shape b ≡ false) where
  pub row13 : (i : ℕ) → i ≡ lowest (stated_terms b) (wrong_term_of b) → i < stated_terms b → refused 13 i ≡ sheet_refusal b
  unfolding sheet_refusal
  row13 i e h = rw (not10, not11, not12, ← e, lt-ltb _ _ h)

  pub row14 : (i : ℕ) → i ≡ lowest (stated_terms b) (wrong_term_of b) → stated_terms b ≤ i →
      (e : ℕ) → e ≡ lowest (stated_entries b) (wrong_entry_of b) → e < stated_entries b → refused 14 e ≡ sheet_refusal b
  unfolding sheet_refusal
  row14 i p h e q l = rw (not10, not11, not12, ← p, le-ltb _ _ h, ← q, lt-ltb _ _ l)

  pub no_row : (i : ℕ) → i ≡ lowest (stated_terms b) (wrong_term_of b) → stated_terms b ≤ i →
      (e : ℕ) → e ≡ lowest (stated_entries b) (wrong_entry_of b) → stated_entries b ≤ e → fine ≡ sheet_refusal b
  unfolding sheet_refusal
  no_row i p h e q l = rw (not10, not11, not12, ← p, le-ltb _ _ h, ← q, le-ltb _ _ l)

-- the answer room is looked at last
module _ (b : List ℕ) (room : ℕ) where
  pub refused-already : (number place : ℕ) → refused number place ≡ sheet_refusal b → refused number place ≡ refusal b room
  unfolding refusal
  refused-already number place e = rw (← e)

  pub row15 : fine ≡ sheet_refusal b → room < room_needed → refused 15 0 ≡ refusal b room
  unfolding refusal
  row15 e h = rw (← e, lt-ltb _ _ h)

  pub all-fine : fine ≡ sheet_refusal b → room_needed ≤ room → fine ≡ refusal b room
  unfolding refusal
  all-fine e h = rw (← e, le-ltb _ _ h)
