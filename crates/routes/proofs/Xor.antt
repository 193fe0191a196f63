-- Laws of `xor`.
-- Assumes nothing.
use mathlib.Core.Path.{◌≡◌, refl}
use mathlib.Core.Bool.{Bool, true, false, xor}

pub xor-false-l : (a : Bool) → xor false a ≡ a
unfolding xor
xor-false-l true = refl
xor-false-l false = refl

pub xor-false-r : (a : Bool) → xor a false ≡ a
unfolding xor
xor-false-r true = refl
xor-false-r false = refl

pub xor_assoc : (a b c : Bool) → xor (xor a b) c ≡ xor a (xor b c)
unfolding xor
xor_assoc true true true = refl
xor_assoc true true false = refl
xor_assoc true false true = refl
xor_assoc true false false = refl
xor_assoc false true true = refl
xor_assoc false true false = refl
xor_assoc false false true = refl
xor_assoc false false false = refl
