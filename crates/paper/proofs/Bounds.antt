-- The bytes of a bound by its name: its kind and its number, or of a tie its rank.
-- Assumes nothing.
use Prim.Native.Nat.{ℕ, zero, suc, ◌+◌, ◌-◌, ◌/◌, ◌%◌, ◌≤◌, ◌<◌}
use mathlib.Core.Path.{◌≡◌, refl}
use mathlib.Core.List.{List, [], ◌∷◌}
use lib.ListN.{get_or}
use native.Mathlib.Omega.{arith}
use Rattle.reasons.specs.Step.{entry}
use Rattle.sketch.specs.Sketch.{kinds_of, bound_named}
use Rattle.paper.specs.Record.{bound_bytes}
use Rattle.paper.specs.Written.{ranked_bound}

module _ (ranks : List ℕ) where
  other-kind : (k n : ℕ) → k < 4 → bound_bytes (ranked_bound ranks (get_or (kinds_of n) k (entry 0))) ≡ k ∷ n ∷ []
  other-kind zero n l = refl
  other-kind (suc zero) n l = refl
  other-kind (suc (suc zero)) n l = refl
  other-kind (suc (suc (suc zero))) n l = refl
  other-kind (suc (suc (suc (suc k)))) n l = absurd (omega arith)

  tie-kind : (k n : ℕ) → k < 2 → bound_bytes (ranked_bound ranks (get_or (kinds_of n) (4 + k) (entry 0))) ≡ (4 + k) ∷ get_or ranks n 0 ∷ []
  tie-kind zero n l = refl
  tie-kind (suc zero) n l = refl
  tie-kind (suc (suc k)) n l = absurd (omega arith)

  pub other-bytes : (name : ℕ) → name < 1024 → bound_bytes (ranked_bound ranks (bound_named name)) ≡ (name / 256) ∷ (name % 256) ∷ []
  unfolding bound_named
  other-bytes name l = other-kind (name / 256) (name % 256) (omega arith)

  pub tie-bytes : (name : ℕ) → 1024 ≤ name → name < 1536 →
      bound_bytes (ranked_bound ranks (bound_named name)) ≡ (name / 256) ∷ get_or ranks (name % 256) 0 ∷ []
  unfolding bound_named
  tie-bytes name h l =
      let k : ℕ = name / 256 - 4 in
      let e : 4 + k ≡ name / 256 = omega arith in
      rw e at (tie-kind k (name % 256) (omega arith))
