-- Numbers of several bytes, the most significant first, and two's complement. A number's width is its count of bytes.
-- Assumes nothing.
use Rattle.std.specs.Prelude.{ℕ, zero, suc, ◌+◌, ◌-◌, ◌*◌, ◌/◌, ◌%◌, ◌^◌, ◌≤◌, ◌<◌, ◌≡◌, cond, List, [], ◌∷◌, ◌++◌, ltb, ℤ, pos, negsuc, get_or}
use Rattle.std.proofs.Math.IntN.{sub_ℕ}

-- what lies in memory: each element is a byte
abbrev pub Bytes : List ℕ → Type 0
Bytes b = (i : ℕ) → get_or b i 0 < 256

-- the number of the w bytes of b from `at` on
unfoldable pub big_of : List ℕ → ℕ → ℕ → ℕ
big_of b at zero = 0
big_of b at (suc w) = big_of b at w * 256 + get_or b (at + w) 0

-- a number of w bytes as two's complement: from half of 256 ^ w on, less 256 ^ w
unfoldable pub signed_of : ℕ → ℕ → ℤ
signed_of w v = sub_ℕ v (cond (ltb (2 * v) (256 ^ w)) 0 (256 ^ w))

-- and written: the w bytes of v, and a whole number as two's complement of w bytes
unfoldable pub bytes_of : ℕ → ℕ → List ℕ
bytes_of zero v = []
bytes_of (suc w) v = bytes_of w (v / 256) ++ (v % 256 ∷ [])

unfoldable pub complement_of : ℕ → ℤ → ℕ
complement_of w (pos n) = n
complement_of w (negsuc n) = 256 ^ w - suc n

-- new is old but for the w bytes from `at` on
pub record Kept (old new : List ℕ) (at w : ℕ) : Type 0 where
  pub before : (m : ℕ) → m < at → get_or new m 0 ≡ get_or old m 0
  pub after : (m : ℕ) → at + w ≤ m → get_or new m 0 ≡ get_or old m 0
