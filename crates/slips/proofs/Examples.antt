-- Slips of texts, worked out.
-- Assumes nothing.
use Prim.Native.Nat.{ℕ, zero, suc}
use mathlib.Core.Path.{refl}
use mathlib.Core.List.{List, [], ◌∷◌}
use native.Mathlib.Omega.{arith}
use Rattle.text.specs.Print.{digits_in, decimal}
use Rattle.text.specs.Typed.{Context}
use Rattle.text.specs.Typed.Context.{on_left, argument}
use Rattle.text.specs.Typed.Lead.{of_variable, of_symbol}
use Rattle.text.specs.Typed.Use.{led}
use Rattle.text.specs.Typed.State.{wants}
use Rattle.slips.specs.Slips.{Slip}
use Rattle.slips.specs.Slips.Slip.{deep, range}

-- x100 and f256
unknown : Slip (120 ∷ 49 ∷ 48 ∷ 48 ∷ []) 22 3
unfolding decimal digits_in
unknown = range {p = 3} {C = on_left []} {K = led of_variable} {n = 100} (record { within = omega arith; alive = tt; looks = refl }) (omega arith)

symbol : Slip (102 ∷ 50 ∷ 53 ∷ 54 ∷ []) 22 3
unfolding decimal digits_in
symbol = range {p = 3} {C = on_left []} {K = led of_symbol} {n = 256} (record { within = omega arith; alive = tt; looks = refl }) (omega arith)

-- f7( seventeen times
within : ℕ → Context
within zero = on_left []
within (suc n) = argument 7 (within n)

brackets : ℕ → List ℕ
brackets zero = []
brackets (suc n) = 102 ∷ 55 ∷ 40 ∷ brackets n

bracket : Slip (brackets 17) 21 50
unfolding decimal digits_in within brackets
bracket = deep {p = 50} {s = wants (within 17)} (record { within = omega arith; alive = tt; looks = refl }) (omega arith)
