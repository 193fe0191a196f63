-- The ties that come an odd number of times on the way up from a point are those of its path to the topmost point.
-- Assumes nothing.
use Prim.Native.Nat.{ℕ, ◌≤◌, ◌<◌}
use mathlib.Core.Path.{◌≡◌, refl, sym, ap₂, ◌∙◌}
use mathlib.Core.Bool.{Bool, xor}
use mathlib.Core.List.{List}
use lib.IntN.{ℤ}
use native.Mathlib.Omega.{arith}
use Rattle.sheet.specs.Sheet.{Sheet, count_terms}
use Rattle.reasons.specs.Step.{Step}
use Rattle.reasons.specs.Rules.{Tied}
use Rattle.reasons.proofs.Paths.{JoinsTwo}
use Rattle.links.specs.Links.{by, Climbs}
use Rattle.links.specs.Links.Climbs.{stays, rises}
use Rattle.routes.specs.Routes.{Upwards}
use Rattle.routes.specs.Routes.Upwards.{topmost, further}
use Rattle.linked.specs.Known.{Kin}
use Rattle.linked.proofs.Groups.{lifted, across-tied}
use Rattle.linked.proofs.Common.{ties-small, above}
use Rattle.traced.specs.Traced.{oddly, Traced}
use Rattle.traced.proofs.Odd.{xor_self, on-odd}

module _ {s : Sheet} {steps : List Step} {n : ℕ} {links paths : List ℕ} (K : Kin s steps n links) (T : Traced steps links paths)
    (r : (t : ℕ) → t < n → JoinsTwo steps t) where
  pub upwards-odd : {u i x g : ℕ} {b : Bool} {c : ℤ} {p : List ℕ} → i ≤ count_terms s → Upwards links paths u i b → Climbs links n i x g →
      Tied steps n i x c p → b ≡ oddly u p
  upwards-odd {u} {p = p} l (topmost m) (stays k) h = sym (on-odd steps n r h h h u ∙ xor_self (oddly u p))
  upwards-odd {i = i} l (topmost m) (rises k C) h = absurd (omega (arith, ties-small K))
  upwards-odd {i = i} l (further m U) (stays k) h = absurd (omega (arith, K.earlier.earlier i (omega (arith, K.terms)) m))
  upwards-odd {u} {i} l (further m U) (rises k C) h =
      let H = K.hangs i (by links i) (omega (arith, K.terms)) refl m in
      let A = (above K (ties-small K) H.above C).grouped.tied in
      let L = across-tied H.to-lower H.across H.from-upper in
      ap₂ xor (T.path (omega (arith, K.terms)) m L u) (upwards-odd H.above U C A) ∙ sym (on-odd steps n r (lifted n k L) A h u)
