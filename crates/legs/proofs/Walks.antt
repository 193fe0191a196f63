-- A leg further leads to one stand, and so does a walk; a walk goes on from where it has come to.
-- Assumes nothing.
use Prim.Native.Nat.{ℕ, zero, suc, ◌+◌, ◌*◌, ◌/◌, ◌%◌, ◌≤◌, ◌<◌}
use mathlib.Core.Path.{◌≡◌, refl}
use mathlib.Core.Bool.{cond}
use mathlib.Core.List.{List, ◌∷◌}
use lib.Dec.{eqb}
use lib.ListN.{length, get_or, drop, drop_of_length-le}
use lib.Seq.{drop-cons}
use native.Mathlib.Omega.{arith}
use native.Mathlib.Numerals.{add-one}
use Rattle.legs.specs.declared.Stand.{Stand}
use Rattle.std.specs.Prelude.{Option, Some, None}
use Rattle.legs.specs.Legs.{range, leg_at, Further, Goes, FurtherSays, WalkSays}
use Rattle.legs.specs.Legs.Further.{forth, back}
use Rattle.legs.specs.Legs.Goes.{stays, on}

pub further-one : {leg turned : ℕ} {s t u : Stand} → Further leg turned s t → Further leg turned s u → t ≡ u
further-one (forth p q) (forth p' q') = refl
further-one (back p q) (back p' q') = refl

pub goes_one : {legs bounds : List ℕ} {s t u : Stand} → Goes legs bounds s t → Goes legs bounds s u → t ≡ u
goes_one stays stays = refl
goes_one (on h f g) (on h' f' g') = goes_one g (rw (further-one f' f) at g')

pub further-gap : {leg turned : ℕ} {s t : Stand} → Further leg turned s t → t.gap < range
further-gap (forth p q) = omega arith
further-gap (back p q) = omega arith

-- what is said of the rest of a row, from where the walk has come to, is said of the row from where it starts
pub record Ahead (legs row : List ℕ) (start stand : Stand) (x : ℕ) : Type 0 where
  pub says : (r : Option Stand) → WalkSays legs (drop x row) stand r → WalkSays legs row start r

pub ahead_none : {legs row : List ℕ} {start : Stand} → Ahead legs row start start 0
ahead_none = record { says = λ r h. h }

module _ (legs : List ℕ) (bound : ℕ) (rest : List ℕ) {s : Stand} where
  no_bound : 6 * 256 ≤ bound → (t : Stand) → Goes legs (bound ∷ rest) s t → ⊥
  no_bound h t (on l f g) = omega arith

  no-further : FurtherSays (leg_at legs bound) (bound / 256 % 2) s None → (t : Stand) → Goes legs (bound ∷ rest) s t → ⊥
  no-further n t (on l f g) = n _ f

  no-rest : {next : Stand} → Further (leg_at legs bound) (bound / 256 % 2) s next → WalkSays legs rest next None →
      (t : Stand) → Goes legs (bound ∷ rest) s t → ⊥
  no-rest f n t (on l f' g) = n t (rw (further-one f' f) at g)

  one_further : {next : Stand} → bound < 6 * 256 → Further (leg_at legs bound) (bound / 256 % 2) s next →
      (r : Option Stand) → WalkSays legs rest next r → WalkSays legs (bound ∷ rest) s r
  one_further l f None h = no-rest f h
  one_further l f (Some t) h = on l f h

-- the code turns on a test
turned : (n : ℕ) → n < 2 → cond (eqb n 1) 1 0 ≡ n
turned zero h = refl
turned (suc zero) h = refl
turned (suc (suc n)) h = absurd (omega arith)

abbrev turn_at : List ℕ → ℕ → ℕ
turn_at row x = cond (eqb (get_or row x 0 / 256 % 2) 1) 1 0

module _ {legs row : List ℕ} {x : ℕ} {start stand : Stand} (A : Ahead legs row start stand x) where
  pub ahead-all : length row ≤ x → Goes legs row start stand
  ahead-all h = A.says (Some stand) (rw (drop_of_length-le row {i = x} h) stays)

  module _ (h : x < length row) where
    rest-is : drop x row ≡ get_or row x 0 ∷ drop (x + 1) row
    rest-is = rw (add-one, drop-cons row x 0 h)

    turn-is : turn_at row x ≡ get_or row x 0 / 256 % 2
    turn-is = turned _ (omega arith)

    pub ahead-wrong : 6 * 256 ≤ get_or row x 0 → WalkSays legs row start None
    ahead-wrong l = A.says None (rw rest-is (no_bound _ _ _ l))

    pub ahead-lost : FurtherSays (leg_at legs (get_or row x 0)) (turn_at row x) stand None → WalkSays legs row start None
    ahead-lost n = A.says None (rw rest-is (no-further _ _ _ (rw turn-is at n)))

    pub ahead_more : {next : Stand} → get_or row x 0 < 6 * 256 → Further (leg_at legs (get_or row x 0)) (turn_at row x) stand next →
        Ahead legs row start next (x + 1)
    ahead_more l f = record { says = λ r h. A.says r (rw rest-is (one_further _ _ _ l (rw turn-is at f) r h)) }
