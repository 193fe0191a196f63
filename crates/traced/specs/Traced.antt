-- The paths of the ties of a reason, as sets.
-- Assumes nothing.
use Rattle.std.specs.Prelude.{ℕ, suc, ◌<◌, ◌≡◌, Bool, false, List, [], ◌∷◌, eqb, ℤ, length}
use Rattle.std.specs.Bool.{xor}
use Rattle.reasons.specs.Step.{Step}
use Rattle.reasons.specs.Rules.{Tied}
use Rattle.sets.specs.Sets.{has, stored}
use Rattle.links.specs.Links.{root, by, up}

-- whether u comes an odd number of times in a list
abbrev pub oddly : ℕ → List ℕ → Bool
oddly u [] = false
oddly u (t ∷ rest) = xor (eqb u t) (oddly u rest)

-- the tie of a link has the ties on the path from the point to the one above it
pub record Traced (steps : List Step) (links paths : List ℕ) : Type 0 where
  pub size : length paths ≡ 512
  pub path : {i : ℕ} {c : ℤ} {p : List ℕ} → i < 256 → by links i < root → Tied steps (suc (by links i)) i (up links i) c p →
      (u : ℕ) → has (stored paths (by links i)) u ≡ oddly u p
