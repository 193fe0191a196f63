-- The keys of one term and those before it.
-- Assumes nothing.
use Prim.Native.Nat.{ℕ, ◌+◌, ◌<◌}
use mathlib.Core.Path.{◌≡◌, ◌∙◌}
use mathlib.Core.List.{List}
use lib.ListN.{length, get_or, set, length-set}
use lib.Seq.{get_or-set_same, get_or-set_other}
use native.Mathlib.Omega.{arith}
use Rattle.sheet.specs.Limits.{max_terms}
use Rattle.shelves.specs.Rows.{key_count, stored}

-- the keys once those of term i are stored
module _ (keys : List ℕ) {i : ℕ} (a b : ℕ) (i< : i < max_terms) where
  pub first-kept : (j : ℕ) → j < i → get_or (stored keys i a b) j 0 ≡ get_or keys j 0
  first-kept j l = get_or-set_other (set keys i a) (max_terms + i) j b 0 (λ e. omega arith) ∙ get_or-set_other keys i j a 0 (λ e. omega arith)

  pub second-kept : (j : ℕ) → j < i → get_or (stored keys i a b) (max_terms + j) 0 ≡ get_or keys (max_terms + j) 0
  second-kept j l =
      get_or-set_other (set keys i a) (max_terms + i) (max_terms + j) b 0 (λ e. omega arith) ∙ get_or-set_other keys i (max_terms + j) a 0 (λ e. omega arith)

  module _ (sized : length keys ≡ key_count) where
    pub first-new : get_or (stored keys i a b) i 0 ≡ a
    first-new = get_or-set_other (set keys i a) (max_terms + i) i b 0 (λ e. omega arith) ∙ get_or-set_same keys i a 0 (omega arith)

    pub second-new : get_or (stored keys i a b) (max_terms + i) 0 ≡ b
    second-new = get_or-set_same (set keys i a) (max_terms + i) b 0 (simp length-set (omega arith))
