-- The rules for step n look at the steps before it alone: where two lists of steps have the same ones, the same tie is right after them.
-- Assumes nothing.
use Prim.Native.Nat.{ℕ, suc, ◌≤◌, ◌<◌}
use mathlib.Core.Path.{◌≡◌, sym}
use mathlib.Core.List.{List}
use lib.IntN.{ℤ}
use native.Mathlib.Omega.{arith}
use Rattle.kind.specs.Kind.{Kind}
use Rattle.order.specs.First.{Set}
use Rattle.sheet.specs.Sheet.{Sheet, WellFormed}
use Rattle.meaning.proofs.Meaning.{same-input-below}
use Rattle.reasons.specs.Step.{Bound, Step, step_at}
use Rattle.reasons.specs.Rules.{Tied, Over, Chain, Walk, TieRight}
use Rattle.reasons.specs.Rules.Tied.{itself, before, forth, back}
use Rattle.reasons.specs.Rules.Over.{an-entry, entry-back, a-number, number-back, a-shift, shift_back, a-tie, tie-back}
use Rattle.reasons.specs.Rules.Chain.{stop, step}
use Rattle.reasons.specs.Rules.TieRight.{by-walks, by-functions}

pub record SameBelow (n : ℕ) (steps others : List Step) : Type 0 where
  pub each : (t : ℕ) → t < n → step_at steps t ≡ step_at others t

pub same-turned : {n : ℕ} {steps others : List Step} → SameBelow n steps others → SameBelow n others steps
same-turned S = record { each = λ t l. sym (S.each t l) }

pub same-lower : {m n : ℕ} {steps others : List Step} → m ≤ n → SameBelow n steps others → SameBelow m steps others
same-lower h S = record { each = λ t l. S.each t (omega arith) }

one_less : {n : ℕ} {steps others : List Step} → SameBelow (suc n) steps others → SameBelow n steps others
one_less S = same-lower (omega arith) S

tied-same : {steps others : List Step} {n i j : ℕ} {c : ℤ} {p : List ℕ} → SameBelow n steps others → Tied steps n i j c p → Tied others n i j c p
tied-same S itself = itself
tied-same S (before h) = before (tied-same (one_less S) h)
tied-same S (forth {n = n} h t k) = forth (tied-same (one_less S) h) (rw (S.each n (omega arith)) at t) (tied-same (one_less S) k)
tied-same S (back {n = n} h t k) = back (tied-same (one_less S) h) (rw (S.each n (omega arith)) at t) (tied-same (one_less S) k)

module _ {s : Sheet} {listed : Set} {n : ℕ} {steps others : List Step} (S : SameBelow n steps others) where
  over-same : {b : Bound} {i j : ℕ} {g : Kind} → Over s listed steps n b i j g → Over s listed others n b i j g
  over-same (an-entry u g) = an-entry u g
  over-same (entry-back u e) = entry-back u e
  over-same (a-number l e) = a-number l e
  over-same (number-back l e) = number-back l e
  over-same (a-shift l e) = a-shift l e
  over-same (shift_back l e) = shift_back l e
  over-same (a-tie {t = t} l h) = a-tie l (rw (S.each t l) at h)
  over-same (tie-back {t = t} l h) = tie-back l (rw (S.each t l) at h)

  chain_same : {w : List Bound} {i k : ℕ} {g : Kind} → Chain s listed steps n w i k g → Chain s listed others n w i k g
  chain_same stop = stop
  chain_same (step o c) = step (over-same o) (chain_same c)

  walk_same : {w : List Bound} {i k : ℕ} {g : Kind} → Walk s listed steps n w i k g → Walk s listed others n w i k g
  walk_same W = record { chain = chain_same W.chain; few = W.few }

  pub tie-same : {k : Step} → WellFormed s → TieRight s listed steps n k → TieRight s listed others n k
  tie-same f (by-walks a b apart c u v) =
      by-walks a b (λ d p t. apart d p (tied-same (same-turned S) t)) c (walk_same u) (walk_same v)
  tie-same f (by-functions {a} {b} l m apart same) =
      by-functions l m (λ d p t. apart d p (tied-same (same-turned S) t))
      (same-input-below a b _ _ (f.arguments a l) (f.arguments b m) (λ i j k h L. record { path = L.path; tied = tied-same S L.tied }) same)
