-- What calls keep, they keep one after the other.
-- Assumes nothing.
use Prim.Native.Nat.{ℕ}
use mathlib.Core.Path.{refl, ◌∙◌}
use mathlib.Core.List.{List}
use Rattle.cells.specs.Cells.{Kept}

pub kept-all : (n : ℕ) (d : List ℕ) → Kept n d d
kept-all n d = record { right = λ i j p q. refl; below = λ k p. refl }

pub kept_on : {n : ℕ} {old mid new : List ℕ} → Kept n old mid → Kept n mid new → Kept n old new
kept_on A B = record { right = λ i j p q. B.right i j p q ∙ A.right i j p q; below = λ k p. B.below k p ∙ A.below k p }
