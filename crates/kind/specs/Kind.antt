-- The gap kind, in document 01's words: a whole number with a mark for strict, or no gap at all. What code holds is a code of it (Code.antt).
-- Assumes nothing.
use Rattle.std.specs.Prelude.{ℕ, ◌+◌, ◌%◌, Bool, cond, ltb, leb, eqb, ℤ, pos, ◌+ℤ◌, ◌*ℤ◌}
use Rattle.whole.specs.Whole.{plus, minus, ◌≼◌, ◌≺◌}
use Rattle.kind.specs.Code.{none}
use Rattle.kind.specs.Meets.{whole_of}

pub data Kind : Type 0 where
  no_gap : Kind
  weak strict : (c : ℤ) → Kind

-- the three gaps that belong to the kind: no gap at all is `no_gap`
abbrev pub zero_gap : Kind
zero_gap = weak (pos 0)

abbrev pub under_zero : Kind
under_zero = strict (pos 0)

-- adding two gaps: the numbers add up, and the sum is strict where one of the two is
unfoldable pub added : Kind → Kind → Kind
added no_gap no_gap = no_gap
added no_gap (weak d) = no_gap
added no_gap (strict d) = no_gap
added (weak c) no_gap = no_gap
added (weak c) (weak d) = weak (c +ℤ d)
added (weak c) (strict d) = strict (c +ℤ d)
added (strict c) no_gap = no_gap
added (strict c) (weak d) = strict (c +ℤ d)
added (strict c) (strict d) = strict (c +ℤ d)

-- is c at most d
abbrev pub at_most : ℤ → ℤ → Bool
at_most c d = leb (plus c + minus d) (plus d + minus c)

-- the tighter of two gaps: the smaller number and, of equal numbers, the strict one
unfoldable pub tighter_kind : Kind → Kind → Kind
tighter_kind no_gap no_gap = no_gap
tighter_kind no_gap (weak d) = weak d
tighter_kind no_gap (strict d) = strict d
tighter_kind (weak c) no_gap = weak c
tighter_kind (weak c) (weak d) = cond (at_most c d) (weak c) (weak d)
tighter_kind (weak c) (strict d) = cond (at_most d c) (strict d) (weak c)
tighter_kind (strict c) no_gap = strict c
tighter_kind (strict c) (weak d) = cond (at_most c d) (strict c) (weak d)
tighter_kind (strict c) (strict d) = cond (at_most c d) (strict c) (strict d)

-- what a gap says of two levels x/D and y/D: x/D is at most y/D + c, or less than that
abbrev pub Says : ℕ → Kind → ℤ → ℤ → Type 0
Says D no_gap x y = Unit
Says D (weak c) x y = x ≼ y +ℤ c *ℤ pos D
Says D (strict c) x y = x ≺ y +ℤ c *ℤ pos D

-- the gap of a code
unfoldable pub kind_of : ℕ → Kind
kind_of g = cond (ltb g none) (cond (eqb (g % 2) 0) (weak (whole_of g)) (strict (whole_of g))) no_gap
