-- What a gap says of two levels x/D and y/D.
-- Assumes nothing.
use Rattle.std.specs.Prelude.{ℕ, ◌+◌, ◌/◌, ◌%◌, ◌<◌, ◌≡◌, ℤ, pos, ◌+ℤ◌, ◌*ℤ◌}
use Rattle.std.proofs.Math.IntN.{sub_ℕ}
use Rattle.whole.specs.Whole.{◌≼◌, ◌≺◌}
use Rattle.kind.specs.Code.{none, half}

-- the whole number of a code: c of base + 2c and of base + 2c - 1
abbrev pub whole_of : ℕ → ℤ
whole_of g = sub_ℕ ((g + 1) / 2) half

-- x/D is at most y/D + c, or less than that where the gap is strict; of no gap, nothing is asked
pub record Meets (D g : ℕ) (x y : ℤ) : Type 0 where
  pub weak : g < none → g % 2 ≡ 0 → x ≼ y +ℤ whole_of g *ℤ pos D
  pub strict : g < none → g % 2 ≡ 1 → x ≺ y +ℤ whole_of g *ℤ pos D
