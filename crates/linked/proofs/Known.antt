-- What is known before each step, from the first on, tie by tie.
-- Assumes nothing.
use Prim.Native.Nat.{ℕ, suc, ◌+◌, ◌≤◌}
use mathlib.Core.Logic.{⊎_elim}
use mathlib.Core.List.{List}
use lib.IntN.{ℤ}
use lib.ListN.{set, replicate}
use native.Mathlib.Nat.{eq-or-lt_of_le}
use native.Mathlib.Omega.{arith}
use Rattle.order.specs.First.{Set}
use Rattle.sheet.specs.Sheet.{Sheet, count_terms, WellFormed}
use Rattle.reasons.specs.Step.{Step, step_at}
use Rattle.reasons.specs.Rules.{Ties, TieWithin, TieRight}
use Rattle.reasons.proofs.Paths.{right-joins}
use Rattle.legs.specs.Legs.{gap_for, word_of, either_way, tie_place}
use Rattle.links.specs.Links.{top_of, Joined}
use Rattle.strides.specs.Trodden.{Trodden}
use Rattle.strides.proofs.Told.{trodden-tie}
use Rattle.linked.specs.Known.{Known}
use Rattle.linked.proofs.Few.{kin-few}
use Rattle.linked.proofs.Joins.{kin-start, kin-join}

pub known_start : {s : Sheet} {listed : Set} {steps : List Step} {legs : List ℕ} → Trodden s listed steps 0 legs → WellFormed s →
    Known s listed steps 0 legs (replicate 256 (top_of 1))
known_start T wf = record { legs-are = T; links-are = kin-start wf.terms; ties = λ t l. absurd (omega arith) }

pub known_next : {s : Sheet} {listed : Set} {steps : List Step} {n : ℕ} {legs links links' : List ℕ} {a b : ℕ} {c : ℤ} →
    Known s listed steps n legs links → WellFormed s → TieRight s listed steps n (step_at steps n) → Ties (step_at steps n) a b c → TieWithin c →
    a ≤ count_terms s → b ≤ count_terms s → Joined links links' n a b (gap_for c) →
    Known s listed steps (suc n) (set legs (tie_place + n) (word_of either_way (gap_for c) a b)) links'
known_next {s} {listed} {steps} {n} {a = a} {b} {c} K wf r t w p q joined =
    let few = kin-few K.links-are in
    let terms = wf.terms in
    record {
      legs-are = trodden-tie K.legs-are (omega arith) t w (omega arith) (omega arith);
      links-are = kin-join K.links-are p q ((right-joins r).apart a b c t) t w joined;
      ties = λ u l. ⊎_elim (λ e. rw e r) (λ m. K.ties u m) (eq-or-lt_of_le {n = u} {m = n} (omega arith));
    }
