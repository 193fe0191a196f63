-- Points that the rules tie are of one label, and tied at 0; so points of different labels are apart.
-- Assumes nothing.
use Prim.Native.Nat.{ℕ, ◌≤◌, ◌<◌}
use mathlib.Core.Path.{◌≡◌, refl, sym, ap, ◌∙◌}
use mathlib.Core.List.{List}
use lib.IntN.{ℤ, pos, neg_ℤ, ◌+ℤ◌}
use native.Mathlib.Omega.{arith}
use Rattle.cells.specs.Cells.{cell}
use Rattle.reasons.specs.Step.{Step}
use Rattle.reasons.specs.Rules.{Ties, walks, functions, Tied, itself, before, forth, back, Apart}
use Rattle.sketch.specs.Sketch.{left, right, Fits}
use Rattle.forest.specs.Labels.{Labelled}
use Rattle.forest.proofs.Rows.{relabelled-same, relabelled-joins, labelled-less, labelled-next}

pub fits-less : {ties : List ℕ} {t u : ℕ} {steps : List Step} → u ≤ t → Fits ties t steps → Fits ties u steps
fits-less h F = record { at = λ v l. F.at v (omega arith) }

-- a step ties in one way only
record One (a b a' b' : ℕ) (c c' : ℤ) : Type 0 where
  left : a ≡ a'
  right : b ≡ b'
  gap : c ≡ c'

one : {s : Step} {a b a' b' : ℕ} {c c' : ℤ} → Ties s a b c → Ties s a' b' c' → One a b a' b' c c'
one walks walks = record { left = refl; right = refl; gap = refl }
one functions functions = record { left = refl; right = refl; gap = refl }

zeros : {c d e : ℤ} → c ≡ pos 0 → d ≡ pos 0 → e ≡ pos 0 → c +ℤ (d +ℤ e) ≡ pos 0
zeros {c} {d} {e} p q r =
    ap (λ (x : ℤ). x +ℤ (d +ℤ e)) p ∙ ap (λ (x : ℤ). pos 0 +ℤ (x +ℤ e)) q ∙ ap (λ (x : ℤ). pos 0 +ℤ (pos 0 +ℤ x)) r

module _ {n : ℕ} {ties labels : List ℕ} where
  pub tied-together : {steps : List Step} {t i j : ℕ} {c : ℤ} {path : List ℕ} → Labelled n ties labels t → Fits ties t steps → Tied steps t i j c path → i < n →
      (j < n) × (cell labels t i ≡ cell labels t j) × (c ≡ pos 0)
  tied-together L F itself l = (l, refl, refl)
  tied-together L F (before {n = t} {i = i} {j = j} T) l =
      let A = tied-together (labelled-less {u = t} (omega arith) L) (fits-less (omega arith) F) T l in
      (A.0, labelled-next L i l ∙ relabelled-same (cell labels t) (left ties t) (right ties t) A.1 ∙ sym (labelled-next L j A.0), A.2)
  tied-together L F (forth {n = t} {i = i} {j = j} T s U) l =
      let L' : Labelled n ties labels t = labelled-less (omega arith) L in
      let F' : Fits ties t _ = fits-less (omega arith) F in
      let O = one s (F.at t (omega arith)) in
      let A = tied-together L' F' T l in
      let B = tied-together L' F' U (rw O.right (L.right< t (omega arith))) in (
        B.0,
        labelled-next L i l ∙ relabelled-joins (cell labels t) (left ties t) (right ties t) (A.1 ∙ ap (cell labels t) O.left)
            (ap (cell labels t) (sym O.right) ∙ B.1) ∙ sym (labelled-next L j B.0),
        zeros A.2 O.gap B.2,
      )
  tied-together L F (back {n = t} {i = i} {j = j} T s U) l =
      let L' : Labelled n ties labels t = labelled-less (omega arith) L in
      let F' : Fits ties t _ = fits-less (omega arith) F in
      let O = one s (F.at t (omega arith)) in
      let A = tied-together L' F' T l in
      let B = tied-together L' F' U (rw O.left (L.left< t (omega arith))) in (
        B.0,
        labelled-next L i l ∙ sym (relabelled-joins (cell labels t) (left ties t) (right ties t) (sym B.1 ∙ ap (cell labels t) O.left)
            (ap (cell labels t) (sym O.right) ∙ sym A.1)) ∙ sym (labelled-next L j B.0),
        zeros A.2 (ap neg_ℤ O.gap) B.2,
      )

  -- so points of different labels are apart
  pub apart : {t i j : ℕ} {steps : List Step} → Labelled n ties labels t → Fits ties t steps → i < n → (cell labels t i ≡ cell labels t j → ⊥) → Apart steps t i j
  apart L F l h c path T = h (tied-together L F T l).1
