-- What a row has once a set is put in one of its places, and that a row of zeros has empty sets.
-- Assumes nothing.
use Prim.Native.Nat.{ℕ, zero, suc, ◌+◌, ◌*◌, ◌<◌}
use native.Mathlib.Omega.{arith}
use mathlib.Core.Path.{◌≡◌, refl, ap₂, ◌∙◌}
use mathlib.Core.Logic.{◌≢◌}
use mathlib.Core.Bool.{false}
use mathlib.Core.List.{List}
use lib.ListN.{length, get_or, set, length-set, replicate}
use lib.Seq.{get_or-set_same, get_or-set_other}
use Rattle.sets.specs.declared.Ties.{Ties}
use Rattle.sets.specs.Sets.{has, stored, put}
use Rattle.sets.proofs.Bits.{empty}

abbrev of : ℕ → ℕ → Ties
of low high = record { low = low; high = high }

pub put-length : (row : List ℕ) (t : ℕ) (a : Ties) → length (put row t a) ≡ length row
put-length row t a = length-set (set row (2 * t) a.low) (2 * t + 1) a.high ∙ length-set row (2 * t) a.low

pub stored-put : (row : List ℕ) (t : ℕ) (a : Ties) → 2 * t + 1 < length row → stored (put row t a) t ≡ a
stored-put row t a h =
    let half = set row (2 * t) a.low in
    ap₂ of
    (get_or-set_other half (2 * t + 1) (2 * t) a.high 0 (λ e. omega arith) ∙ get_or-set_same row (2 * t) a.low 0 (omega arith))
    (get_or-set_same half (2 * t + 1) a.high 0 (omega (arith, length-set row (2 * t) a.low)))

pub stored_other : (row : List ℕ) (t u : ℕ) (a : Ties) → u ≢ t → stored (put row t a) u ≡ stored row u
stored_other row t u a n =
    let half = set row (2 * t) a.low in
    ap₂ of
    (get_or-set_other half (2 * t + 1) (2 * u) a.high 0 (λ e. omega arith)
    ∙ get_or-set_other row (2 * t) (2 * u) a.low 0 (λ e. n (omega arith)))
    (get_or-set_other half (2 * t + 1) (2 * u + 1) a.high 0 (λ e. n (omega arith))
    ∙ get_or-set_other row (2 * t) (2 * u + 1) a.low 0 (λ e. omega arith))

zeros : (n k : ℕ) → ◌≡◌ {A = ℕ} (get_or (replicate n 0) k 0) 0
zeros zero k = refl
zeros (suc n) zero = refl
zeros (suc n) (suc k) = zeros n k

pub none-stored : (n t u : ℕ) → has (stored (replicate n 0) t) u ≡ false
none-stored n t u = rw (zeros n (2 * t)) (rw (zeros n (2 * t + 1)) (empty u))
