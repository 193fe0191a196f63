-- A whole number's codes say what it says.
-- Assumes nothing.
use Prim.Native.Nat.{ℕ, ◌+◌, ◌*◌, ◌-◌, ◌≤◌, ◌<◌}
use mathlib.Core.Logic.{◌↔◌}
use lib.IntN.{ℤ, pos, ◌+ℤ◌, ◌*ℤ◌}
use native.Mathlib.Omega.{arith}
use Rattle.whole.specs.Whole.{plus, minus, ◌≼◌, ◌≺◌}
use Rattle.kind.specs.Code.{half, base}
use Rattle.kind.specs.Meets.{Meets}
use Rattle.kind.proofs.Kind.{kind-is, kind-says}

abbrev pub code_of : ℤ → ℕ
code_of c = base + 2 * plus c - 2 * minus c

pub meets-code : {D : ℕ} {x y : ℤ} (c : ℤ) → minus c ≤ half → plus c < half → Meets D (code_of c) x y ↔ x ≼ y +ℤ c *ℤ pos D
meets-code {D} {x} {y} c h k =
    rw (kind-is (code_of c) 0 c (omega arith) (omega arith) (omega arith)) at (kind-says D (code_of c) x y)

pub meets-code-strict : {D : ℕ} {x y : ℤ} (c : ℤ) → minus c < half → plus c < half → Meets D (code_of c - 1) x y ↔ x ≺ y +ℤ c *ℤ pos D
meets-code-strict {D} {x} {y} c h k =
    rw (kind-is (code_of c - 1) 1 c (omega arith) (omega arith) (omega arith)) at (kind-says D (code_of c - 1) x y)
