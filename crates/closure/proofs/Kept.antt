-- What a relaxed table holds and which rows it keeps, over codes.
-- Assumes nothing.
use Prim.Native.Nat.{ℕ, ◌+◌, ◌≤◌, ◌<◌}
use mathlib.Core.Path.{◌≡◌}
use native.Mathlib.Omega.{arith}
use Rattle.kind.specs.Code.{none, sum_of, Within}
use Rattle.kind.proofs.Codes.{sum-within, sum_mono, sum_comm, sum-zero, zero-sum}
use Rattle.closure.specs.Closed.{Closed, RelaxedBy}
use Rattle.closure.specs.Table.{step}

pub wider : (v w g : ℕ) → v ≤ w → Within v g → Within w g
wider v w g l r = record { low = omega arith; high = λ p. omega (arith, r.high p); top = r.top }

-- the relaxed table holds the bound
pub relaxed-holds : (N R : ℕ) (d new : ℕ → ℕ → ℕ) (a b g : ℕ) →
    a < N → b < N → g ≤ none → RelaxedBy N d new a b g → Closed N R d → new a b ≤ g
relaxed-holds N R d new a b g a< b< g≤ r c =
    let own : sum_of (sum_of (d a a) g) (d b b) ≡ g = rw (c.same a a<, c.same b b<, zero-sum g g≤, sum-zero g g≤) in
    omega (arith, r.at a b a< b<)

-- a row whose cell at b isn't improved doesn't change
pub row_kept : (N R : ℕ) (d : ℕ → ℕ → ℕ) (a b g i j : ℕ) → a < N → b < N → i < N → j < N → Within step g → step ≤ R → Closed N R d
    → d i b ≤ sum_of (d i a) g → d i j ≤ sum_of (sum_of (d i a) g) (d b j)
row_kept N R d a b g i j a< b< i< j< w s c h =
    omega (
      arith,
      c.tri i j b i< j< b<,
      sum_mono (R + step) R (d i b) (sum_of (d i a) g) (d b j) (omega arith)
          (wider R (R + step) (d i b) (omega arith) (c.range i b i< b<))
          (sum-within R step (d i a) g (omega arith) (c.range i a i< a<) w)
          (c.range b j b< j<)
          h,
    )

-- and no row's is where the table holds the bound
pub held_kept : (N R : ℕ) (d : ℕ → ℕ → ℕ) (a b g i : ℕ) → a < N → b < N → i < N → Within step g → step ≤ R → Closed N R d
    → d a b ≤ g → d i b ≤ sum_of (d i a) g
held_kept N R d a b g i a< b< i< w s c h =
    omega (
      arith,
      c.tri i b a i< b< a<,
      sum_comm (d i a) (d a b),
      sum_comm (d i a) g,
      sum_mono R R (d a b) g (d i a) (omega arith) (c.range a b a< b<) (wider step R g s w) (c.range i a i< a<) h,
    )
