-- What links say of two points is what the rules say of them.
-- Assumes nothing.
use Prim.Native.Nat.{ℕ, ◌+◌, ◌-◌, ◌%◌, ◌≤◌, ◌<◌}
use mathlib.Core.Path.{sym, ◌∙◌}
use mathlib.Core.List.{List}
use native.Mathlib.Omega.{arith}
use Rattle.std.specs.Prelude.{Option, Some, None}
use Rattle.order.specs.First.{Set}
use Rattle.sheet.specs.Sheet.{Sheet, count_terms}
use Rattle.reasons.specs.Step.{Step, step_at}
use Rattle.reasons.specs.Rules.{TieRight}
use Rattle.legs.specs.Legs.{range}
use Rattle.links.specs.Links.{Climbs, Between}
use Rattle.links.proofs.Climbing.{gap-small as climbs-small, climbs-one}
use Rattle.linked.specs.Known.{Kin, OneGap, BetweenTold}
use Rattle.linked.proofs.Gaps.{differs-gap, told-gap}
use Rattle.reasons.proofs.Paths.{turned, on}
use Rattle.linked.proofs.Common.{ties-small, settled, above, common, the-gap}
use Rattle.linked.proofs.Few.{path-short, gap-short, kin-few}

module _ {s : Sheet} {listed : Set} {steps : List Step} {n : ℕ} {links : List ℕ} (K : Kin s steps n links)
    (r : (t : ℕ) → t < n → TieRight s listed steps t (step_at steps t)) where
  -- two points that climb to one
  one-gap : {i j x g h : ℕ} → i ≤ count_terms s → j ≤ count_terms s → Climbs links n i x g → Climbs links n j x h →
      OneGap steps n i j ((g + (range - h)) % range)
  one-gap {i} {j} {x} {g} {h} a b C D =
      let A = above K (ties-small K) a C in
      let B = above K (ties-small K) b D in
      let record { gap = c; path = p; tied = T } = on A.grouped.tied (turned B.grouped.tied).tied in
      let e = told-gap (climbs-small D) (the-gap (common K n (omega arith) i j c p a T) C D) in
      let (u, v) = gap-short r T in
      let few = kin-few K in
      let terms = K.terms in
      let l = path-short r T in
      record { c = c; path = p; tied = T; gap_is = differs-gap c (omega arith) (omega arith) (omega arith) e; up = omega arith; down = omega arith }

  pub kin-between : {i j : ℕ} → i ≤ count_terms s → j ≤ count_terms s → (r : Option ℕ) → Between links i j r → BetweenTold steps n i j r
  kin-between {i} {j} a b None (x, g, y, h, C, D, ne) = λ c p T.
      let M = common K n (omega arith) i j c p a T in
      ne (sym (climbs-one M.left (settled K a C)).0 ∙ (climbs-one M.right (settled K b D)).0)
  kin-between a b (Some c) (x, g, h, C, D, e) = rw e (one-gap a b (settled K a C) (settled K b D))
