-- Groups by the rules: each point is of its own, what is tied stays so, and one tie more joins the groups of its two ends and no others.
-- Assumes nothing.
use Prim.Native.Nat.{ℕ, zero, suc, ◌≤◌}
use mathlib.Core.Path.{◌≡◌, refl}
use mathlib.Core.Logic.{⊎_elim}
use mathlib.Core.List.{List, ◌∷◌, ◌++◌}
use lib.IntN.{ℤ, neg_ℤ, ◌+ℤ◌}
use native.Mathlib.Nat.{eq-or-lt_of_le}
use native.Mathlib.Omega.{arith}
use Rattle.whole.proofs.Parts.{parts-inj, neg-plus, neg-minus}
use Rattle.reasons.specs.Step.{Step, step_at}
use Rattle.reasons.specs.Rules.{Tied}
use Rattle.reasons.specs.Rules.Tied.{itself, before, forth, back}
use Rattle.reasons.proofs.Paths.{Grouped, group, ties-one}
use Rattle.linked.specs.Known.{Across}
use Rattle.linked.specs.Known.Across.{first_below, second_below}

-- what ties i to j by the first t + 1 ties: the first t, or the last of them once, up or down across its link
pub data Last (steps : List Step) (t lower upper : ℕ) (d : ℤ) (i j : ℕ) (c : ℤ) : List ℕ → Type 0 where
  earlier : {p : List ℕ} → Tied steps t i j c p → Last steps t lower upper d i j c p
  upwards : {e f : ℤ} {p q : List ℕ} → Tied steps t i lower e p → Tied steps t upper j f q → c ≡ e +ℤ (d +ℤ f) →
      Last steps t lower upper d i j c (p ++ t ∷ q)
  downwards : {e f : ℤ} {p q : List ℕ} → Tied steps t i upper e p → Tied steps t lower j f q → c ≡ e +ℤ (neg_ℤ d +ℤ f) →
      Last steps t lower upper d i j c (p ++ t ∷ q)

neg-neg : (d : ℤ) → neg_ℤ (neg_ℤ d) ≡ d
neg-neg d = parts-inj _ _ (omega (arith, neg-plus (neg_ℤ d), neg-minus (neg_ℤ d), neg-plus d, neg-minus d))

module _ {steps : List Step} where
  pub itself-at : (n : ℕ) {i : ℕ} → Grouped steps n i i
  itself-at zero = group itself
  itself-at (suc n) = group (before (itself-at n).tied)

  pub lifted : (n : ℕ) {t i j : ℕ} {c : ℤ} {p : List ℕ} → t ≤ n → Tied steps t i j c p → Tied steps n i j c p
  lifted zero {t} l h = let e : t ≡ 0 = omega arith in rw e at h
  lifted (suc n) {t} l h = ⊎_elim (λ e. rw e at h) (λ k. before (lifted n (omega arith) h)) (eq-or-lt_of_le {n = t} {m = suc n} l)

  -- over a step's tie, from the end below its link to that above
  pub across-tied : {n lower upper i j : ℕ} {c d e : ℤ} {p q : List ℕ} → Tied steps n i lower c p →
      Across (step_at steps n) lower upper d → Tied steps n upper j e q → Tied steps (suc n) i j (c +ℤ (d +ℤ e)) (p ++ n ∷ q)
  across-tied h (first_below t) k = forth h t k
  across-tied h (second_below t) k = back h t k

  pub last : {t lower upper i j : ℕ} {c d : ℤ} {p : List ℕ} → Across (step_at steps t) lower upper d →
      Tied steps (suc t) i j c p → Last steps t lower upper d i j c p
  last A (before h) = earlier h
  last (first_below u) (forth h t k) =
      let S = ties-one t u in upwards (rw S.left at h) (rw S.right at k) (rw S.gap refl)
  last (first_below u) (back h t k) =
      let S = ties-one t u in downwards (rw S.right at h) (rw S.left at k) (rw S.gap refl)
  last (second_below u) (forth h t k) =
      let S = ties-one t u in downwards (rw S.left at h) (rw S.right at k) (rw (S.gap, neg-neg) refl)
  last (second_below u) (back h t k) =
      let S = ties-one t u in upwards (rw S.right at h) (rw S.left at k) (rw S.gap refl)
