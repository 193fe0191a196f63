-- What is known of a step that stands: its record is there and says it, its walks fit their rows, and what it rests on is earlier.
-- Assumes nothing.
use Prim.Native.Nat.{ℕ, zero, suc, ◌+◌, ◌≤◌, ◌<◌}
use mathlib.Core.Path.{◌≡◌, refl, ◌∙◌, sym, ap, subst}
use mathlib.Core.Logic.{◌⊎◌, inl, inr, ⊎_elim}
use mathlib.Core.List.{List}
use lib.ListN.{length, get_or}
use native.Mathlib.Omega.{arith}
use native.Mathlib.Decide.{ℕ_discrete}
use Rattle.order.specs.First.{Set}
use Rattle.sheet.specs.Sheet.{Sheet, count_terms}
use Rattle.sheet.proofs.Decode.{length-each}
use Rattle.reasons.specs.Step.{Step, by_walks, by_functions, closing_walk, closing_entry, step_at}
use Rattle.reasons.specs.Rules.{TieRight, Closing}
use Rattle.reasons.specs.Rules.TieRight.{by-walks, by-functions}
use Rattle.reasons.specs.Rules.Closing.{by-walk, by-entry}
use Rattle.reasons.specs.Reason.{Rests}
use Rattle.reasons.proofs.Bounds.{step-proper, rests-earlier}
use Rattle.stated.specs.Said.{walk_of, step_kinds, step_of, steps_of, Formed, record_at}
use Rattle.stated.specs.declared.Step.{Step as Record}
use Rattle.stated.proofs.Said.{step-said}
use Rattle.basis.specs.Basis.{Stands}
use Rattle.gathered.specs.Gathers.{Upright}

-- the walks of a step have at most so many bounds
abbrev Few : ℕ → Step → Type 0
Few most (by_walks a b c there back) = (length there ≤ most) × (length back ≤ most)
Few most (by_functions a b) = Unit
Few most (closing_walk a round) = length round ≤ most
Few most (closing_entry e) = Unit

tie-few : {s : Sheet} {listed : Set} {steps : List Step} {n : ℕ} {k : Step} → TieRight s listed steps n k → Few (count_terms s + 1) k
tie-few (by-walks a b h l p q) = (p.few, q.few)
tie-few (by-functions a b h same) = tt

closing-few : {s : Sheet} {listed : Set} {steps : List Step} {n : ℕ} {k : Step} → Closing s listed steps n k → Few (count_terms s + 1) k
closing-few (by-walk a w u) = w.few
closing-few (by-entry u r h) = tt

walk-length : (count : ℕ) (bounds : List ℕ) → length (walk_of count bounds) ≡ count
walk-length count bounds = length-each count _

-- so a record has at most so many
counts : (most : ℕ) (r : Record) → Formed r → Few most (step_of r) → (r.first ≤ most) × (r.second ≤ most)
unfolding step_of
counts most r f few = go r.kind refl
  where
    step : (k : ℕ) → r.kind ≡ k → Few most (get_or (step_kinds r) k (closing_entry 0))
    step k e = subst (λ (i : ℕ). Few most (get_or (step_kinds r) i (closing_entry 0))) e few

    go : (k : ℕ) → r.kind ≡ k → (r.first ≤ most) × (r.second ≤ most)
    go zero e = (omega (arith, (step zero e).0, walk-length r.first r.there), omega (arith, (step zero e).1, walk-length r.second r.back))
    go (suc zero) e = (omega (arith, f.first (inl e)), omega (arith, f.second (omega (arith, e))))
    go (suc (suc zero)) e = (omega (arith, step (suc (suc zero)) e, walk-length r.first r.there), omega (arith, f.second (omega (arith, e))))
    go (suc (suc (suc zero))) e = (omega (arith, f.first (inr e)), omega (arith, f.second (omega (arith, e))))
    go (suc (suc (suc (suc k)))) e = absurd (omega (arith, f.kind, e))

module _ {s : Sheet} {listed : Set} {records : List Record} {last : ℕ} {legs links paths : List ℕ}
    (u : Upright s listed records last legs links paths) where
  pub there : {n : ℕ} → n ≤ last → n < length records
  there l = omega (arith, u.there, l)

  -- step n of them, of the record r
  module _ {n : ℕ} {r : Record} (l : n ≤ last) (e : r ≡ record_at records n) where
    pub said : step_at (steps_of records) n ≡ step_of r
    said = step-said records n (there l) ∙ ap step_of (sym e)

    right : TieRight s listed (steps_of records) n (step_of r) ⊎ Closing s listed (steps_of records) n (step_of r)
    right = go (ℕ_discrete n last)
      where
        go : Dec (n ≡ last) → TieRight s listed (steps_of records) n (step_of r) ⊎ Closing s listed (steps_of records) n (step_of r)
        go (yes q) = inr (rw (e, q) u.closing)
        go (no q) = inl (subst (λ (k : Step). TieRight s listed (steps_of records) n k) said (u.known.ties n (omega arith)))

    pub stands : Stands s listed (steps_of records) last legs links paths n r
    stands = record { known = u.known; traced = u.traced; among = l; is = said; formed = rw e (u.formed n l); right = right }

    pub walks-fit : (r.first ≤ 129) × (r.second ≤ 129)
    walks-fit =
        let few = counts (count_terms s + 1) r stands.formed (⊎_elim tie-few closing-few right) in
        (omega (arith, few.0, u.known.links-are.terms), omega (arith, few.1, u.known.links-are.terms))

    pub rests-said : {t : ℕ} → Rests s (steps_of records) n (step_of r) t → Rests s (steps_of records) n (step_at (steps_of records) n) t
    rests-said {t} h = subst (λ (k : Step). Rests s (steps_of records) n k t) (sym said) h

    pub earlier : {t : ℕ} → Rests s (steps_of records) n (step_of r) t → t < n
    earlier h =
        let e = sym (step-said records last u.there) in
        let closing = subst (λ (k : Step). Closing s listed (steps_of records) last k) e u.closing in
        rests-earlier (step-proper n l (u.known.ties n) closing) (rests-said h)
