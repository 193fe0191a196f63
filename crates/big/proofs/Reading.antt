-- The number of some bytes, the most significant first: one byte more, its bound, and that it and its bytes decide one another.
-- Assumes nothing.
use Prim.Native.Nat.{ℕ, zero, suc, ◌+◌, ◌*◌, ◌^◌, ◌≤◌, ◌<◌}
use mathlib.Core.Path.{◌≡◌, refl}
use mathlib.Core.List.{List}
use lib.ListN.{get_or}
use mathlib.Core.Logic.{⊎_elim}
use native.Mathlib.Omega.{arith}
use native.Mathlib.Nat.{pow-suc, eq-or-lt_of_le}
use Rattle.big.specs.Big.{Bytes, big_of}

pub big-more : (b : List ℕ) (at w : ℕ) → big_of b at (suc w) ≡ big_of b at w * 256 + get_or b (at + w) 0
unfolding big_of
big-more b at w = refl

pub big-bound : (b : List ℕ) → Bytes b → (at w : ℕ) → big_of b at w < 256 ^ w
unfolding big_of
big-bound b B at zero = omega arith
big-bound b B at (suc w) = omega (arith, big-bound b B at w, B (at + w), pow-suc 256 w)

-- the same bytes, the same number
pub big-same : (b b' : List ℕ) (at w : ℕ) → ((m : ℕ) → at ≤ m → m < at + w → get_or b m 0 ≡ get_or b' m 0) → big_of b at w ≡ big_of b' at w
unfolding big_of
big-same b b' at zero h = refl
big-same b b' at (suc w) h =
    omega (arith, big-same b b' at w (λ m p q. h m p (omega arith)), h (at + w) (omega arith) (omega arith))

-- the same number, the same bytes
pub big-digits : (b b' : List ℕ) → Bytes b → Bytes b' → (at w : ℕ) → big_of b at w ≡ big_of b' at w →
    (m : ℕ) → at ≤ m → m < at + w → get_or b m 0 ≡ get_or b' m 0
unfolding big_of
big-digits b b' B B' at zero e m p q = absurd (omega arith)
big-digits b b' B B' at (suc w) e m p q =
    ⊎_elim
    (λ s. rw s (omega (arith, B (at + w), B' (at + w))))
    (λ l. big-digits b b' B B' at w (omega (arith, B (at + w), B' (at + w))) m p l)
    (eq-or-lt_of_le (omega arith))
