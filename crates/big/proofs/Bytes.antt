-- Writing a number and reading it undo one another at any width, and so do two's complement and its reading.
-- Assumes nothing.
use Prim.Native.Nat.{ℕ, zero, suc, ◌+◌, ◌*◌, ◌-◌, ◌/◌, ◌%◌, ◌^◌, ◌≤◌, ◌<◌}
use mathlib.Core.Path.{◌≡◌, refl, ◌∙◌}
use mathlib.Core.Logic.{◌⊎◌, inl, inr}
use mathlib.Core.List.{List, [], ◌∷◌, ◌++◌}
use lib.IntN.{ℤ, pos, negsuc}
use lib.ListN.{length, get_or, take, drop, length-append, length-drop, get_or-append}
use lib.Seq.{take-suc, get_or-drop, get_or_at}
use native.Mathlib.Omega.{arith}
use native.Mathlib.Nat.{pow-suc}
use Rattle.whole.specs.Whole.{plus, minus}
use Rattle.whole.proofs.Parts.{sub_parts, parts-inj}
use Rattle.big.specs.Big.{Bytes, big_of, bytes_of, signed_of, complement_of}
use Rattle.big.proofs.Reading.{big-same}
use Rattle.big.proofs.Signed.{signed_low, signed_high}

pub bytes-length : (w v : ℕ) → length (bytes_of w v) ≡ w
unfolding bytes_of
bytes-length zero v = refl
bytes-length (suc w) v = simp (length-append, bytes-length w (v / 256)) (omega arith)

bytes-more : (b : List ℕ) (x : ℕ) → Bytes b → x < 256 → Bytes (b ++ (x ∷ []))
bytes-more [] x B l zero = l
bytes-more [] x B l (suc i) = omega arith
bytes-more (y ∷ b) x B l zero = B 0
bytes-more (y ∷ b) x B l (suc i) = bytes-more b x (λ j. B (suc j)) l i

pub bytes-bytes : (w v : ℕ) → Bytes (bytes_of w v)
unfolding bytes_of
bytes-bytes zero v = λ i. omega arith
bytes-bytes (suc w) v = bytes-more (bytes_of w (v / 256)) (v % 256) (bytes-bytes w (v / 256)) (omega arith)

pub read-written : (w v : ℕ) → v < 256 ^ w → big_of (bytes_of w v) 0 w ≡ v
unfolding big_of bytes_of
read-written zero v l = omega arith
read-written (suc w) v l =
    let b : List ℕ = bytes_of w (v / 256) in
    let e : length b ≡ w = bytes-length w (v / 256) in
    omega (
      arith,
      read-written w (v / 256) (omega (arith, pow-suc 256 w)),
      big-same (b ++ (v % 256 ∷ [])) b 0 w (λ m p q. get_or-append b (v % 256 ∷ []) 0 m (omega arith)),
      get_or_at b (v % 256) [] 0 (0 + w) (omega arith),
    )

pub written_read : (b : List ℕ) → Bytes b → (at w : ℕ) → at + w ≤ length b → take w (drop at b) ≡ bytes_of w (big_of b at w)
unfolding big_of bytes_of
written_read b B at zero l = refl
written_read b B at (suc w) l =
    let d : big_of b at (suc w) / 256 ≡ big_of b at w = omega (arith, B (at + w)) in
    let m : big_of b at (suc w) % 256 ≡ get_or b (at + w) 0 = omega (arith, B (at + w)) in
    cc (
      take-suc (drop at b) w 0 (simp length-drop (omega arith)),
      written_read b B at w (omega arith),
      get_or-drop at b w 0,
    )

pub bytes-inj : (w u v : ℕ) → u < 256 ^ w → v < 256 ^ w → bytes_of w u ≡ bytes_of w v → u ≡ v
bytes-inj w u v a b e = cc (read-written w u a, read-written w v b)

pub complement-fits : (w : ℕ) (z : ℤ) → 2 * plus z < 256 ^ w → 2 * minus z ≤ 256 ^ w → complement_of w z < 256 ^ w
unfolding complement_of
complement-fits w (pos n) a b = omega arith
complement-fits w (negsuc n) a b = omega arith

pub signed-complement : (w : ℕ) (z : ℤ) → 2 * plus z < 256 ^ w → 2 * minus z ≤ 256 ^ w → signed_of w (complement_of w z) ≡ z
unfolding complement_of
signed-complement w (pos n) a b = signed_low w n (omega arith) ∙ parts-inj _ _ (omega (arith, sub_parts n 0))
signed-complement w (negsuc n) a b =
    signed_high w (256 ^ w - suc n) (omega arith) ∙ parts-inj _ _ (omega (arith, sub_parts (256 ^ w - suc n) (256 ^ w)))

-- a difference of x and z that wraps around at 256 ^ w, as code without signed numbers makes it
pub complement-difference : (w r x z : ℕ) (n : ℤ) → plus n + z ≡ x + minus n → r < 256 ^ w → (r + z ≡ x) ⊎ (r + z ≡ x + 256 ^ w) → r ≡ complement_of w n
unfolding complement_of
complement-difference w r x z (pos k) e l (inl h) = omega arith
complement-difference w r x z (pos k) e l (inr h) = absurd (omega arith)
complement-difference w r x z (negsuc k) e l (inl h) = absurd (omega arith)
complement-difference w r x z (negsuc k) e l (inr h) = omega arith

-- the bytes of its two's complement tell a whole number
pub complement-inj : (w : ℕ) (y z : ℤ) → (2 * plus y < 256 ^ w) × (2 * minus y ≤ 256 ^ w) → (2 * plus z < 256 ^ w) × (2 * minus z ≤ 256 ^ w) →
    bytes_of w (complement_of w y) ≡ bytes_of w (complement_of w z) → y ≡ z
complement-inj w y z a b e =
    cc (
      signed-complement w y a.0 a.1,
      signed-complement w z b.0 b.1,
      bytes-inj w _ _ (complement-fits w y a.0 a.1) (complement-fits w z b.0 b.1) e,
    )
