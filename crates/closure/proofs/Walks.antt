-- Walks over bounds: after one another, and over more bounds, as a tighter table holds.
-- Assumes nothing.
use Prim.Native.Nat.{ℕ, ◌≤◌, ◌<◌}
use mathlib.Core.List.{List}
use Rattle.kind.specs.Kind.{Kind, added}
use Rattle.closure.specs.Walk.{Tight, Walk, Reached, Among}
use Rattle.closure.specs.Walk.Walk.{stop, step}
use Rattle.closure.specs.Table.{Held}
use Rattle.closure.proofs.Order.{tight-refl, tight-trans, tight-code, added-assoc, added-unit, added-mono}

module _ {E : ℕ → ℕ → Kind → Type 0} where
  abbrev pub reached : {i k : ℕ} {t : Kind} {ps : List ℕ} → Walk E i k t ps → Reached E i k t
  reached {t = t} {ps} w = record { total = t; points = ps; walk = w; tight = tight-refl t }

  abbrev pub looser : {i k : ℕ} {t u : Kind} → Tight t u → Reached E i k t → Reached E i k u
  looser h r = record { total = r.total; points = r.points; walk = r.walk; tight = tight-trans _ _ _ r.tight h }

  -- a bound, then a walk
  abbrev pub first : {i j k : ℕ} {t : Kind} (g : Kind) → E i j g → Reached E j k t → Reached E i k (added g t)
  first g e r = looser (added-mono _ _ _ _ (tight-refl g) r.tight) (reached (step e r.walk))

  after : {i j k : ℕ} {t u : Kind} {ps : List ℕ} → Walk E i j t ps → Reached E j k u → Reached E i k (added t u)
  after stop r = rw added-unit r
  after (step {g = g} e w) r = rw added-assoc (first g e (after w r))

  -- two walks after one another
  pub joined : {i j k : ℕ} {t u : Kind} → Reached E i j t → Reached E j k u → Reached E i k (added t u)
  joined {u = u} r s = looser (added-mono _ _ _ _ r.tight (tight-refl u)) (after r.walk s)

-- where all bounds are bounds of F too, so are all walks
module _ {E F : ℕ → ℕ → Kind → Type 0} (A : Among E F) where
  walk_more : {i k : ℕ} {t : Kind} {ps : List ℕ} → Walk E i k t ps → Walk F i k t ps
  walk_more stop = stop
  walk_more (step e w) = step (A.more e) (walk_more w)

  pub reached-more : {i k : ℕ} {t : Kind} → Reached E i k t → Reached F i k t
  reached-more r = record { total = r.total; points = r.points; walk = walk_more r.walk; tight = r.tight }

-- a tighter table holds the same bounds
module _ {N : ℕ} {d : ℕ → ℕ → ℕ} (new : ℕ → ℕ → ℕ) (less : (i j : ℕ) → i < N → j < N → new i j ≤ d i j) where
  pub held-less : {i j : ℕ} {g : Kind} → Held N d i j g → Held N new i j g
  held-less {i} {j} e =
      record {
        from = e.from;
        to = e.to;
        near = e.near;
        held = tight-trans _ _ _ (tight-code _ _ (less i j e.from e.to)) e.held;
      }
