-- What links say of two points, and so of two applications, is what the rules say.
-- Assumes nothing.
use Prim.Native.Nat.{ℕ, ◌^◌, ◌≤◌, ◌<◌}
use mathlib.Core.Path.{◌≡◌, refl, sym, ◌∙◌, ap}
use mathlib.Core.Bool.{Bool, true, false, true≢false, false≢true}
use mathlib.Core.List.{List}
use native.Mathlib.Omega.{arith}
use Rattle.std.specs.Prelude.{Some, None}
use lib.IntN.{ℤ, pos}
use Rattle.whole.specs.Whole.{plus, minus}
use Rattle.order.specs.First.{Set}
use Rattle.sheet.specs.Sheet.{Sheet, count_terms}
use Rattle.meaning.specs.Decides.{Decides}
use Rattle.meaning.proofs.Decides.{shown, refuted, told}
use Rattle.big.specs.Big.{complement_of}
use Rattle.reasons.specs.Step.{Step}
use Rattle.reasons.specs.Rules.{Tied, Apart, Level}
use Rattle.reasons.proofs.Paths.{right-joins, one-path}
use Rattle.legs.specs.Legs.{gap_for}
use Rattle.linked.specs.Known.{Known}
use Rattle.linked.proofs.Told.{kin-between}
use Rattle.probes.specs.Probes.{TiedSays, TiedAtSays}
use Rattle.probes.specs.Probes.TiedSays.{one-group, two-groups}
use Rattle.probes.specs.Probes.TiedAtSays.{at-it, at-another, at_none}
use Rattle.upheld.proofs.Gaps.{gap-one}

-- two points are tied with a gap
pub record TiedBy (steps : List Step) (n i j : ℕ) (c : ℤ) : Type 0 where
  pub path : List ℕ
  pub tied : Tied steps n i j c path

module _ {s : Sheet} {listed : Set} {steps : List Step} {n : ℕ} {legs links : List ℕ} (K : Known s listed steps n legs links) {i j : ℕ}
    (left : i ≤ count_terms s) (right : j ≤ count_terms s) where
  pub apart-told : {r : Bool} → TiedSays links i j r → (r ≡ false → Apart steps n i j) × (r ≡ true → Apart steps n i j → ⊥)
  apart-told (one-group gap h) =
      let G = kin-between K.links-are K.ties left right (Some gap) h in
      (λ e. absurd (true≢false e), λ e A. A G.c G.path G.tied)
  apart-told (two-groups h) =
      (λ e. kin-between K.links-are K.ties left right None h, λ e. absurd (false≢true e))

  pub at_told : {gap : ℕ} {r : Bool} (c : ℤ) → gap ≡ gap_for c → plus c < 2 ^ 39 → minus c < 2 ^ 39 → TiedAtSays links i j gap r →
      Decides (TiedBy steps n i j c) r
  at_told {gap} c e up down (at-it h) =
      let G = kin-between K.links-are K.ties left right (Some gap) h in
      let q = gap-one G.c c G.up G.down up down (sym G.gap_is ∙ e) in
      shown record { path = G.path; tied = rw q at G.tied }
  at_told {gap} c e up down (at-another other ne h) =
      let G = kin-between K.links-are K.ties left right (Some other) h in
      refuted (λ T. ne (G.gap_is ∙ ap gap_for (one-path steps n (λ t l. right-joins (K.ties t l)) G.tied T.tied).0 ∙ sym e))
  at_told c e up down (at_none h) =
      refuted (λ T. kin-between K.links-are K.ties left right None h c T.path T.tied)

  pub level-told : {r : Bool} → TiedAtSays links i j 0 r → Decides (Level steps n i j) r
  unfolding complement_of
  level-told S =
      told (λ T. record { path = T.path; tied = T.tied }) (λ L. record { path = L.path; tied = L.tied })
      (at_told (pos 0) refl (omega arith) (omega arith) S)
