-- The code of a gap. A gap is a whole number c, strict or not, or none at all. Codes count half steps from `base`:
-- c is base + 2c, c strict is base + 2c - 1, and no gap at all is `none`, which is above every other.
-- Assumes nothing.
use Rattle.std.specs.Prelude.{ℕ, ◌+◌, ◌-◌, ◌*◌, ◌%◌, ◌<◌, ◌≤◌, min, cond, ltb}

abbrev pub base : ℕ
base = 1073741824

abbrev pub none : ℕ
none = 2147483648

-- half of `base`: where the whole number 0 stands among the codes' halves
abbrev pub half : ℕ
half = 536870912

-- the tighter of two gaps
abbrev pub tighter_of : ℕ → ℕ → ℕ
tighter_of g h = min g h

-- the sum of two gaps that are there: strict where one of them is, so a half step comes back where both are
abbrev pub sum_finite : ℕ → ℕ → ℕ
sum_finite g h = g + h + min (g % 2) (h % 2) - base

-- the sum of two gaps: none where one of them is none
unfoldable pub sum_of : ℕ → ℕ → ℕ
sum_of g h = cond (ltb g none) (cond (ltb h none) (sum_finite g h) none) none

-- two gaps whose sum has a code: no difference stops at 0, and a sum of two that are there stays below `none`, which would be no gap
pub record Addable (g h : ℕ) : Type 0 where
  pub low : base ≤ g + h
  pub high : g < none → h < none → g + h < base + none

-- a gap from -w strict to w, or none
pub record Within (w g : ℕ) : Type 0 where
  pub low : base ≤ g + 2 * w + 1
  pub high : g < none → g ≤ base + 2 * w
  pub top : g ≤ none
