-- What bytes say is one list of steps, and there is always one, since each step has some bytes.
-- Assumes nothing.
use Prim.Native.Nat.{ℕ, zero, suc, ◌+◌, ◌≤◌, ◌<◌}
use mathlib.Core.Path.{◌≡◌, refl, ap}
use mathlib.Core.List.{List, [], ◌∷◌}
use lib.ListN.{length}
use native.Mathlib.Decide.{dec_le, dec_lt}
use native.Mathlib.Omega.{arith}
use Rattle.stated.specs.declared.Step.{Step as Record}
use Rattle.recited.specs.Recited.{step_head, size_at, Whole, record_from, torn, Recites, ended, cut, step}

pub recites-one : {b : List ℕ} {at : ℕ} {records others : List Record} → Recites b at records → Recites b at others → records ≡ others
recites-one (ended l) (ended m) = refl
recites-one (ended l) (cut m w) = absurd (omega arith)
recites-one (ended l) (step W r) = absurd (omega arith)
recites-one (cut m w) (ended l) = absurd (omega arith)
recites-one (cut l w) (cut m v) = refl
recites-one (cut l w) (step W r) = absurd (w W)
recites-one (step W r) (ended l) = absurd (omega arith)
recites-one (step W r) (cut m w) = absurd (w W)
recites-one {b} {at} (step W r) (step X q) = ap {B = List Record} (λ l. record_from b at ∷ l) (recites-one r q)

pub some_bytes : (b : List ℕ) (at : ℕ) → step_head ≤ size_at b at
unfolding size_at
some_bytes b at = omega arith

pub whole? : (b : List ℕ) (at : ℕ) → Dec (Whole b at)
whole? b at = go (dec_le (at + size_at b at) (length b))
  where
    go : Dec (at + size_at b at ≤ length b) → Dec (Whole b at)
    go (yes l) = yes (record { head = omega (arith, some_bytes b at); bounds = l })
    go (no l) = no (λ W. l W.bounds)

pub record Says (b : List ℕ) (at : ℕ) : Type 0 where
  pub records : List Record
  pub recites : Recites b at records

says : (b : List ℕ) (left at : ℕ) → length b ≤ left + at → Says b at
says b zero at l = record { records = []; recites = ended {at = at} (omega arith) }
says b (suc left) at l =
    go (λ m. says b left (at + size_at b at) m) (whole? b at) (dec_lt at (length b))
  where
    go : (length b ≤ left + (at + size_at b at) → Says b (at + size_at b at)) → Dec (Whole b at) → Dec (at < length b) → Says b at
    go f (yes W) d =
        let S = f (omega (arith, some_bytes b at)) in
        record { records = record_from b at ∷ S.records; recites = step W S.recites }
    go f (no w) (yes m) = record { records = torn ∷ []; recites = cut m w }
    go f (no w) (no m) = record { records = []; recites = ended {at = at} (omega arith) }

pub recites-some : (b : List ℕ) (at : ℕ) → Says b at
recites-some b at = says b (length b) at (omega arith)
