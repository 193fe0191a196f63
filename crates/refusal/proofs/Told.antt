-- What the check answers is one only: two answers of code with the same number and place are the same.
-- Assumes nothing.
use Prim.Native.Nat.{ℕ, ◌-◌}
use mathlib.Core.Path.{◌≡◌, refl, sym, ap, ◌∙◌}
use mathlib.Core.List.{[], ◌∷◌}
use lib.ListN.{get_or}
use Rattle.refusal.specs.declared.Refusal.{Refusal}
use Rattle.refusal.specs.declared.Refusal.TheVariants.{Length, Version, Shape, WrongTerm, WrongEntry, Room}
use Rattle.std.specs.Prelude.{Result, Ok, Err}
use Rattle.grounds.specs.Table.{Reply, fine, refused}
use Rattle.refusal.specs.Says.{number_of, place_of, check_says}

-- the way back, from which it follows
refusal-of : (number place : ℕ) → Refusal
refusal-of number place =
    get_or (Length ∷ Version ∷ Shape ∷ WrongTerm (record { 0 = place }) ∷ WrongEntry (record { 0 = place }) ∷ Room ∷ []) (number - 10) Room

refusal-back : (r : Refusal) → refusal-of (number_of r) (place_of r) ≡ r
unfolding refusal-of
refusal-back Length = refl
refusal-back Version = refl
refusal-back Shape = refl
refusal-back (WrongTerm i) = refl
refusal-back (WrongEntry e) = refl
refusal-back Room = refl

checked : Reply → Result Unit Refusal
checked fine = Ok tt
checked (refused number place) = Err (refusal-of number place)

checked-back : (c : Result Unit Refusal) → checked (check_says c) ≡ c
unfolding checked
checked-back (Ok tt) = refl
checked-back (Err r) = ap Err (refusal-back r)

pub check-told : (c d : Result Unit Refusal) → check_says c ≡ check_says d → c ≡ d
check-told c d e = sym (checked-back c) ∙ ap checked e ∙ checked-back d
