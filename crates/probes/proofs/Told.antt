-- What is told by the gap between two points, and of where a walk over legs has come to.
-- Assumes nothing.
use Prim.Native.Nat.{ℕ, ◌+◌, ◌≤◌}
use mathlib.Core.Path.{◌≡◌, refl, sym, ◌∙◌, ap, subst}
use mathlib.Core.Bool.{Bool, true, false, not, ◌&&◌, false≢true}
use mathlib.Core.List.{List}
use lib.Dec.{eqb}
use Rattle.std.specs.Option.{option_eq}
use Rattle.std.specs.Prelude.{Option, Some, None, is_some}
use lib.ListN.{take}
use Rattle.meaning.specs.Decides.{Decides}
use Rattle.meaning.proofs.Decides.{told}
use Rattle.legs.specs.Legs.{start_at, Goes}
use Rattle.legs.specs.declared.Stand.{Stand}
use Rattle.legs.proofs.Walks.{goes_one}
use Rattle.links.specs.Links.{Between}
use Rattle.probes.specs.Probes.{TiedSays, TiedAtSays, GoesTo}
use Rattle.probes.specs.Probes.TiedSays.{one-group, two-groups}
use Rattle.probes.specs.Probes.TiedAtSays.{at-it, at-another, at_none}
use Rattle.probes.proofs.Tests.{same, flag, none, both}

-- the answer that a gap is there
pub has_gap : (links : List ℕ) (i j : ℕ) (r : Option ℕ) → Between links i j r → TiedSays links i j (is_some r)
has_gap links i j (Some gap) h = one-group gap h
has_gap links i j None h = two-groups h

-- and the one that it is one gap
pub at_gap : (links : List ℕ) (i j gap : ℕ) (r : Option ℕ) → Between links i j r → TiedAtSays links i j gap (option_eq eqb r (Some gap))
at_gap links i j gap (Some other) h = go (eqb other gap) (same other gap)
  where
    go : (r : Bool) → Decides (other ≡ gap) r → TiedAtSays links i j gap r
    go true D = at-it (subst (λ (g : ℕ). Between links i j (Some g)) (D.yes refl) h)
    go false D = at-another other (D.no refl) h
at_gap links i j gap None h = at_none h

abbrev plainly : (at gap : ℕ) → Stand
plainly i g = record { at = i; gap = g; strict = false }

pub plain-stand : (e : Stand) {j gap : ℕ} → e.at ≡ j → e.gap ≡ gap → (e.strict ≡ true → ⊥) → e ≡ plainly j gap
plain-stand e {j} {gap} a g n = go e.strict refl
  where
    go : (b : Bool) → e.strict ≡ b → e ≡ plainly j gap
    go true h = absurd (n h)
    go false h = rw (a, g, h)

pub goes-here : {legs bounds : List ℕ} {level count i j gap : ℕ} {e : Stand} → count ≤ level + 1 → Goes legs (take count bounds) (start_at i) e →
    Decides (GoesTo legs bounds level count i j gap) ((eqb e.at j && eqb e.gap gap) && not e.strict)
goes-here {legs} {bounds} {count = count} {i = i} {j} {gap} {e} few g =
    told
    (λ h. record { few = few; goes = subst (Goes legs (take count bounds) (start_at i)) (plain-stand e h.0.0 h.0.1 h.1) g })
    (λ G.
    let q = goes_one g G.goes in
    ((ap (λ (x : Stand). x.at) q, ap (λ (x : Stand). x.gap) q), λ t. false≢true (sym (ap (λ (x : Stand). x.strict) q) ∙ t)))
    (both (both (same e.at j) (same e.gap gap)) (none (flag e.strict)))
