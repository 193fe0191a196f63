-- What a reply of the table tells: of a sheet that isn't sent back no row applies, in no larger room either, and one that is has a
-- number of 10 or more.
-- Assumes nothing.
use Prim.Native.Nat.{ℕ, ◌≤◌}
use mathlib.Core.Path.{◌≡◌, refl, sym, subst}
use mathlib.Core.Bool.{Bool, true, false}
use mathlib.Core.List.{List}
use lib.Dec.{ltb}
use native.Mathlib.Omega.{arith}
use borrow.Author.Tests.{ltb-false}
use Rattle.sheet.specs.Limits.{room_needed}
use Rattle.sheet.specs.Decode.{stated_terms, stated_entries}
use Rattle.grounds.specs.Rows.{wrong_length, wrong_version, wrong_shape, wrong_term_of, wrong_entry_of, lowest}
use Rattle.grounds.specs.Table.{Reply, fine, refused, ◌then◌, given, given_lowest, sheet_refusal, refusal}
use Rattle.grounds.proofs.Rows.{all-fine}

pub fine-refused : {r : Reply} {number place : ℕ} → r ≡ fine → r ≡ refused number place → ⊥
fine-refused p q = let z : ◌≡◌ {A = ℕ} 0 1 = cc in omega arith

-- what a row that doesn't apply leaves
pub passed : (t : Bool) (number place : ℕ) (r : Reply) → given t number place then r ≡ fine → (t ≡ false) × (r ≡ fine)
passed true number place r e = absurd (fine-refused e refl)
passed false number place r e = (refl, e)

pub last-passed : (t : Bool) (number place : ℕ) → given t number place ≡ fine → t ≡ false
last-passed true number place e = absurd (fine-refused e refl)
last-passed false number place e = refl

both-fine : (r : Reply) (t : Bool) (number place : ℕ) → r then given t number place ≡ fine → (r ≡ fine) × (t ≡ false)
both-fine fine t number place e = (refl, last-passed t number place e)
both-fine (refused _ _) t number place e = absurd (fine-refused e refl)

pub fine-sheet : (b : List ℕ) (room : ℕ) → refusal b room ≡ fine → (sheet_refusal b ≡ fine) × (room_needed ≤ room)
unfolding refusal
fine-sheet b room e = let (sheet, enough) = both-fine (sheet_refusal b) (ltb room room_needed) 15 0 e in (sheet, ltb-false _ _ enough)

pub fine-larger : (b : List ℕ) (room larger : ℕ) → refusal b room ≡ fine → room ≤ larger → refusal b larger ≡ fine
fine-larger b room larger e h = let (sheet, enough) = fine-sheet b room e in sym (all-fine b larger (sym sheet) (omega arith))

abbrev FromTen : Reply → Type 0
FromTen fine = Unit
FromTen (refused number place) = 10 ≤ number

given-ten : (t : Bool) (number place : ℕ) → 10 ≤ number → FromTen (given t number place)
given-ten true number place h = h
given-ten false number place h = tt

then-ten : (r s : Reply) → FromTen r → FromTen s → FromTen (r then s)
then-ten fine s p q = q
then-ten (refused _ _) s p q = p

lowest-ten : (n : ℕ) (wrong : ℕ → Bool) (number : ℕ) → 10 ≤ number → FromTen (given_lowest n wrong number)
lowest-ten n wrong number h = given-ten (ltb (lowest n wrong) n) number (lowest n wrong) h

pub refused-ten : (b : List ℕ) (room number place : ℕ) → refusal b room ≡ refused number place → 10 ≤ number
unfolding refusal sheet_refusal
refused-ten b room number place e =
    subst FromTen e
    (then-ten (sheet_refusal b) _
    (then-ten (given (wrong_length b) 10 0) _ (given-ten (wrong_length b) 10 0 (omega arith))
    (then-ten (given (wrong_version b) 11 0) _ (given-ten (wrong_version b) 11 0 (omega arith))
    (then-ten (given (wrong_shape b) 12 0) _ (given-ten (wrong_shape b) 12 0 (omega arith))
    (then-ten (given_lowest (stated_terms b) (wrong_term_of b) 13) _ (lowest-ten (stated_terms b) (wrong_term_of b) 13 (omega arith))
    (lowest-ten (stated_entries b) (wrong_entry_of b) 14 (omega arith))))))
    (given-ten (ltb room room_needed) 15 0 (omega arith)))
