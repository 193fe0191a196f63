-- A value as it is written: levels have no sign, and a difference of theirs that wraps around is the value's two's complement.
-- Assumes nothing.
use Prim.Native.Nat.{ℕ, ◌+◌, ◌%◌, ◌^◌, ◌<◌}
use mathlib.Core.Path.{◌≡◌}
use mathlib.Core.Logic.{inl, inr, ⊎_elim}
use mathlib.Core.List.{List}
use lib.ListN.{get_or}
use native.Mathlib.Omega.{arith}
use Rattle.whole.proofs.Order.{order}
use Rattle.whole.proofs.Parts.{sub_parts}
use Rattle.big.specs.Big.{complement_of}
use Rattle.big.proofs.Bytes.{complement-difference}
use Rattle.answer.specs.Levels.{value_at}

pub value_written : (v : List ℕ) (t i : ℕ) {r : ℕ} → r < 2 ^ 64 → get_or v t 0 < 2 ^ 64 → (r + get_or v t 0) % 2 ^ 64 ≡ get_or v i 0 → r ≡ complement_of 8 (value_at v t i)
value_written v t i {r} a b e =
    complement-difference 8 r (get_or v i 0) (get_or v t 0) (value_at v t i) (sub_parts (get_or v i 0) (get_or v t 0)) a
    (⊎_elim (λ h. inr (omega arith)) (λ h. inl (omega arith)) (order (2 ^ 64) (r + get_or v t 0)))
