-- A step's head: three bytes, a number's two's complement, and two bytes.
-- Assumes nothing.
use Prim.Native.Nat.{ℕ, ◌+◌, ◌*◌, ◌^◌, ◌≤◌, ◌<◌}
use mathlib.Core.Path.{◌≡◌, refl}
use mathlib.Core.List.{List}
use lib.ListN.{length, set, length-set, length-append}
use lib.IntN.{ℤ, pos}
use native.Mathlib.Omega.{arith}
use native.Mathlib.Decide.{dec_le}
use borrow.Author.Tests.{lt-ltb, le-ltb}
use Rattle.big.specs.Big.{Bytes, big_of, signed_of, complement_of, Kept}
use Rattle.big.proofs.Signed.{signed_low, signed_high}
use Rattle.big.proofs.Bytes.{bytes-length}
use Rattle.paper.specs.Record.{step_head}
use Rattle.paper.specs.Written.{Appended}
use Rattle.paper.proofs.Pieces.{byte, two_bytes, number, then}

-- two's complement, read and written again
complement_low : (w v : ℕ) → 2 * v < 256 ^ w → complement_of w (signed_of w v) ≡ v
unfolding complement_of
complement_low w v h = rw (signed_low w v h, le-ltb v 0 (omega arith)) (omega arith)

complement-high : (w v : ℕ) → v < 256 ^ w → 256 ^ w ≤ 2 * v → complement_of w (signed_of w v) ≡ v
unfolding complement_of
complement-high w v l h = rw (signed_high w v h, lt-ltb v (256 ^ w) l) (omega arith)

complement-signed : (w v : ℕ) → v < 256 ^ w → complement_of w (signed_of w v) ≡ v
complement-signed w v l = go (dec_le (256 ^ w) (2 * v))
  where
    go : Dec (256 ^ w ≤ 2 * v) → complement_of w (signed_of w v) ≡ v
    go (yes h) = complement-high w v l h
    go (no h) = complement_low w v (omega arith)

pub signed-zero : signed_of 8 0 ≡ pos 0
unfolding signed_of
signed-zero = refl

pub head-length : (kind a b : ℕ) (c : ℤ) (first second : ℕ) → length (step_head kind a b c first second) ≡ 13
unfolding step_head
head-length kind a b c first second = simp (length-append, bytes-length) refl

-- old after the first three bytes, and mid after the number
pub step-head : (old mid : List ℕ) (at kind a b c first second : ℕ) → let begun = set (set (set old at kind) (at + 1) a) (at + 2) b in
    at + 13 ≤ length old → Bytes mid → c < 256 ^ 8 → length mid ≡ length begun → (big_of mid (at + 3) 8 ≡ c) × Kept begun mid (at + 3) 8 →
    Appended old (set (set mid (at + 11) first) (at + 12) second) at (at + 13) (step_head kind a b (signed_of 8 c) first second)
unfolding step_head
step-head old mid at kind a b c first second l B f s w =
    let two : List ℕ = set (set old at kind) (at + 1) a in
    let long : length (set two (at + 2) b) ≡ length old = simp length-set in
    let begin = two_bytes old at (at + 1) (at + 2) kind a refl refl (omega arith) refl in
    rw (complement-signed 8 c f) (
    then
    (then
    (then begin (byte two (at + 2) (at + 3) b (simp length-set (omega arith)) (omega arith)))
    (number (at + 11) (omega arith) (omega arith) B s w))
    (two_bytes mid (at + 11) (at + 12) (at + 13) first second (omega arith) (omega arith) (omega arith) refl)
    )
