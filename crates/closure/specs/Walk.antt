-- Walks over bounds between points. Gaps are of the kind itself here, so that totals have no limit.
-- Assumes nothing.
use Rattle.std.specs.Prelude.{ℕ, ◌≤◌, List, [], ◌∷◌}
use Rattle.whole.specs.Whole.{plus, minus, ◌≼◌, ◌≺◌}
use Rattle.kind.specs.Kind.{Kind, no_gap, weak, strict, zero_gap, added}

-- k is at least as tight as l
unfoldable pub Tight : Kind → Kind → Type 0
Tight no_gap no_gap = Unit {0}
Tight no_gap (weak d) = ⊥
Tight no_gap (strict d) = ⊥
Tight (weak c) no_gap = Unit {0}
Tight (weak c) (weak d) = c ≼ d
Tight (weak c) (strict d) = c ≺ d
Tight (strict c) no_gap = Unit {0}
Tight (strict c) (weak d) = c ≼ d
Tight (strict c) (strict d) = c ≼ d

-- the gap is there, and its number is from -w to w
unfoldable pub Near : ℕ → Kind → Type 0
Near w no_gap = ⊥
Near w (weak c) = (plus c ≤ w) × (minus c ≤ w)
Near w (strict c) = (plus c ≤ w) × (minus c ≤ w)

-- a walk over the bounds E from a point to a point: its total, and the points that it visits, both ends among them
pub data Walk (E : ℕ → ℕ → Kind → Type 0) : ℕ → ℕ → Kind → List ℕ → Type 0 where
  stop : {i : ℕ} → Walk E i i zero_gap (i ∷ [])
  step : {i j k : ℕ} {g t : Kind} {ps : List ℕ} → E i j g → Walk E j k t ps → Walk E i k (added g t) (i ∷ ps)

-- a walk from i to k whose total is at least as tight as t
pub record Reached (E : ℕ → ℕ → Kind → Type 0) (i k : ℕ) (t : Kind) : Type 0 where
  pub total : Kind
  pub points : List ℕ
  pub walk : Walk E i k total points
  pub tight : Tight total t

-- each bound of E is one of F
pub record Among (E F : ℕ → ℕ → Kind → Type 0) : Type 0 where
  pub more : {i j : ℕ} {g : Kind} → E i j g → F i j g
