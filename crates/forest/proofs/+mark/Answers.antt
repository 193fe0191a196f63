-- `forest::mark` meets its contract: the path goes over the tie that joined the two points.
-- Assumes nothing.
use Prim.Native.Nat.{ℕ, suc, ◌<◌}
use mathlib.Core.Path.{◌≡◌, sym, ap, ◌∙◌, subst}
use mathlib.Core.Bool.{Bool, true, false}
use mathlib.Core.List.Memᴰ.{head as here}
use mathlib.Core.List.Memᴰ.{not-nil}
use mathlib.Core.List.Memᴰ.{tail as later}
use mathlib.Core.List.{List, [], ◌∷◌, ◌++◌, Memᴰ as In}
use mathlib.Core.Logic.{◌⊎◌, inl, inr, ⊎_elim}
use lib.ListN.{length, set}
use lib.Seq.{get_or-set_same, get_or-set_other}
use native.Mathlib.Omega.{arith}
use native.Mathlib.Decide.{ℕ_discrete}
use Rattle.order.specs.First.{marked}
use Rattle.cells.specs.Cells.{cell}
use Rattle.sketch.specs.Sketch.{left, right}
use Rattle.forest.specs.Labels.{Labelled, Joining, PathMarked}
use Rattle.forest.proofs.Ways.{Way, in_both, in-first, in-second, way_on, way-itself, way-forth, way_back, sides}
use Rattle.forest.proofs.+mark.Goals as goal

mark-none : (ties : List ℕ) (t i : ℕ) (old : List Bool) → PathMarked ties t i i old old
mark-none ties t i old = record { path = []; tied = (way-itself t i).tied; on = λ x m. absurd (not-nil m); stays = λ x e. e; only = λ x e. inl e }

way : {ties : List ℕ} {t i j : ℕ} {old new : List Bool} (P : PathMarked ties t i j old new) → Way ties t i j P.path
way P = record { tied = P.tied; within = λ x m. (P.on x m).0 }

-- tie u is marked, and then the paths on both sides of it
module _ {ties : List ℕ} {t u i j a b : ℕ} (old : List Bool) {mid new : List Bool} (h : u < t) (l : u < length old)
    (P : PathMarked ties u i a (set old u true) mid) (Q : PathMarked ties u b j mid new) where
  own : marked new u ≡ true
  own = Q.stays u (P.stays u (get_or-set_same old u true false l))

  on : (x : ℕ) → In x (P.path ++ u ∷ Q.path) → (x < t) × (marked new x ≡ true)
  on x m = ⊎_elim (λ k. let p = P.on x k in (omega (arith, p.0), Q.stays x p.1)) second (in_both P.path m)
    where
      second : In x (u ∷ Q.path) → (x < t) × (marked new x ≡ true)
      second (here e) = (omega arith, rw e own)
      second (later k) = let q = Q.on x k in (omega (arith, q.0), q.1)

  stays : (x : ℕ) → marked old x ≡ true → marked new x ≡ true
  stays x e = go (ℕ_discrete x u)
    where
      go : Dec (x ≡ u) → marked new x ≡ true
      go (yes f) = rw f own
      go (no n) = Q.stays x (P.stays x (get_or-set_other old u x true false n ∙ e))

  only : (x : ℕ) → marked new x ≡ true → (marked old x ≡ true) ⊎ In x (P.path ++ u ∷ Q.path)
  only x e = ⊎_elim (λ f. ⊎_elim (λ g. go g (ℕ_discrete x u)) (λ m. inr (in-first _ m)) (P.only x f)) (λ m. inr (in-second P.path (later m))) (Q.only x e)
    where
      go : marked (set old u true) x ≡ true → Dec (x ≡ u) → (marked old x ≡ true) ⊎ In x (P.path ++ u ∷ Q.path)
      go g (yes f) = inr (in-second P.path (here f))
      go g (no n) = inl (sym (get_or-set_other old u x true false n) ∙ g)

  mark-over : Way ties (suc u) i j (P.path ++ u ∷ Q.path) → PathMarked ties t i j old new
  mark-over W = record { path = P.path ++ u ∷ Q.path; tied = (way_on h W).tied; on = on; stays = stays; only = only }

  mark-forth : a ≡ left ties u → b ≡ right ties u → PathMarked ties t i j old new
  mark-forth p q = mark-over (way-forth (subst (λ (k : ℕ). Way ties u i k P.path) p (way P)) (subst (λ (k : ℕ). Way ties u k j Q.path) q (way Q)))

  mark-back : a ≡ right ties u → b ≡ left ties u → PathMarked ties t i j old new
  mark-back p q = mark-over (way_back (subst (λ (k : ℕ). Way ties u i k P.path) p (way P)) (subst (λ (k : ℕ). Way ties u k j Q.path) q (way Q)))

-- the sides of tie u, where the test says on which i is
module _ {n t i j u a b : ℕ} {ties labels : List ℕ} (L : Labelled n ties labels t) (l : i < n) (m : j < n) (J : Joining labels t i j u)
    (p : a ≡ left ties u) (q : b ≡ right ties u) where
  with-left : cell labels u i ≡ cell labels u a → cell labels u b ≡ cell labels u j
  with-left e =
      ⊎_elim (λ s. ap (cell labels u) q ∙ s.1)
      (λ s. absurd (L.apart u J.earlier (ap (cell labels u) (sym p) ∙ sym e ∙ s.0))) (sides L l m J)

  with-right : (cell labels u i ≡ cell labels u a → ⊥) → (cell labels u i ≡ cell labels u b) × (cell labels u a ≡ cell labels u j)
  with-right h =
      ⊎_elim (λ s. absurd (h (s.0 ∙ ap (cell labels u) (sym p)))) (λ s. (s.0 ∙ ap (cell labels u) (sym q), ap (cell labels u) p ∙ s.1)) (sides L l m J)

pub returns-then-i-j : goal.returns-then-i-j
returns-then-i-j t c = rw (sym c.if-i-j.true) (mark-none c.args.ties.now c.args.t c.args.i c.args.need.now)

pub returns-then-together : goal.returns-then-together
returns-then-together t c =
    mark-forth c.args.need.now c.joining-last.ensures.earlier (omega (arith, c.joining-last.ensures.earlier)) c.mark.ensures c.mark-then-together.ensures
    c.left-a.ensures c.right-b.ensures

pub returns-else-together : goal.returns-else-together
returns-else-together t c =
    mark-back c.args.need.now c.joining-last.ensures.earlier (omega (arith, c.joining-last.ensures.earlier)) c.mark-else-together.ensures c.mark-else-together-2.ensures
    c.right-b.ensures c.left-a.ensures
