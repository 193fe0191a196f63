-- Texts and what is none, worked out.
-- Assumes nothing.
use Prim.Native.Nat.{ℕ}
use mathlib.Core.Path.{◌≡◌, refl}
use mathlib.Core.List.{List, [], ◌∷◌}
use lib.IntN.{negsuc}
use Rattle.sheet.specs.Sheet.Relation.{at_most}
use Rattle.text.specs.Text.{Line}
use Rattle.text.specs.Text.Sign.{plus, minus}
use Rattle.text.specs.Text.Plain.{variable, apply}
use Rattle.text.specs.Text.Arguments.{pair}
use Rattle.text.specs.Text.Term.{number, plain, shifted}
use Rattle.text.specs.Print.{digits_in, decimal, print}
use Rattle.text.specs.Machine.{step, run, start}
use Rattle.text.specs.Typed.Context.{on_left}
use Rattle.text.specs.Typed.State.{stopped, wants}

-- x10<=f7(x1-0,-3)+20
line : Line
line = record { left = plain (variable 10); relation = at_most; right = shifted (apply 7 (pair (shifted (variable 1) minus 0) (number (negsuc 2)))) plus 20 }

bytes : List ℕ
bytes = 120 ∷ 49 ∷ 48 ∷ 60 ∷ 61 ∷ 102 ∷ 55 ∷ 40 ∷ 120 ∷ 49 ∷ 45 ∷ 48 ∷ 44 ∷ 45 ∷ 51 ∷ 41 ∷ 43 ∷ 50 ∷ 48 ∷ 10 ∷ []

looks : print (line ∷ []) ≡ bytes
unfolding line bytes decimal digits_in
looks = refl

reads : run start bytes ≡ wants (on_left (line ∷ []))
unfolding line bytes step run
reads = refl

-- x05 stops at the 5, -0 at the 0, f1(x0,x1, at the second comma, x0+1+ at the second +, 5+ at the +
leading : run start (120 ∷ 48 ∷ 53 ∷ []) ≡ stopped
unfolding step run
leading = refl

negative-zero : run start (45 ∷ 48 ∷ []) ≡ stopped
unfolding step run
negative-zero = refl

comma : run start (102 ∷ 49 ∷ 40 ∷ 120 ∷ 48 ∷ 44 ∷ 120 ∷ 49 ∷ 44 ∷ []) ≡ stopped
unfolding step run
comma = refl

shift-twice : run start (120 ∷ 48 ∷ 43 ∷ 49 ∷ 43 ∷ []) ≡ stopped
unfolding step run
shift-twice = refl

number-shifted : run start (53 ∷ 43 ∷ []) ≡ stopped
unfolding step run
number-shifted = refl
