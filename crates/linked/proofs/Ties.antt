-- There are at most T right ties: their links can be made one by one.
-- Assumes nothing.
use Prim.Native.Nat.{ℕ, zero, suc, ◌≤◌, ◌<◌}
use mathlib.Core.Path.{refl}
use mathlib.Core.Logic.{◌⊎◌, inl, inr}
use mathlib.Core.List.{List}
use lib.ListN.{replicate}
use lib.IntN.{ℤ, pos}
use native.Mathlib.Omega.{arith}
use Rattle.whole.proofs.Order.{order}
use Rattle.order.specs.First.{Set}
use Rattle.sheet.specs.Sheet.{Sheet, count_terms}
use Rattle.reasons.specs.Step.{Step, step_at}
use Rattle.reasons.specs.Rules.{Ties, TieWithin, Apart, TieRight}
use Rattle.reasons.specs.Rules.Ties.{walks, functions}
use Rattle.reasons.specs.Rules.TieRight.{by-walks, by-functions}
use Rattle.links.specs.Links.{root, by, Climbs, stays, rises, top_of}
use Rattle.links.specs.Links.Joined.{first_below}
use Rattle.linked.specs.Known.{Earlier, Kin}
use Rattle.linked.proofs.Groups.{itself-at}
use Rattle.linked.proofs.Common.{Common, common}
use Rattle.linked.proofs.Few.{kin-few}
use Rattle.linked.proofs.Joins.{kin-start, kin-join}

-- what a right tie says
pub record Tie (s : Sheet) (steps : List Step) (n : ℕ) (k : Step) : Type 0 where
  pub a : ℕ
  pub b : ℕ
  pub c : ℤ
  pub ties : Ties k a b c
  pub left : a ≤ count_terms s
  pub right : b ≤ count_terms s
  pub apart : Apart steps n a b
  pub within : TieWithin c

pub tie-of : {s : Sheet} {S : Set} {steps : List Step} {n : ℕ} {k : Step} → TieRight s S steps n k → Tie s steps n k
tie-of (by-walks {a} {b} {c} p q h w t u) = record { a = a; b = b; c = c; ties = walks; left = p; right = q; apart = h; within = w }
tie-of (by-functions {a} {b} p q h same) =
    record { a = a; b = b; c = pos 0; ties = functions; left = omega arith; right = omega arith; apart = h; within = (omega arith, omega arith) }

-- where all links are by the first n ties, a climb by these is a climb
whole : {links : List ℕ} {n i x g : ℕ} → Earlier links n → n ≤ root → i < 256 → Climbs links n i x g → Climbs links root i x g
whole {links} {n} E l m (stays {i = i} h) = stays {i = i} (go (order root (by links i)))
  where
    go : (root ≤ by links i) ⊎ (by links i < root) → root ≤ by links i
    go (inl a) = a
    go (inr a) = absurd (omega (arith, E.earlier i m a))
whole {links} E l m (rises {i = i} h C) = rises {i = i} (omega arith) (whole E l (omega arith) C)

-- each point climbs
climbs : {s : Sheet} {steps : List Step} {n : ℕ} {links : List ℕ} → Kin s steps n links → (i : ℕ) → i ≤ count_terms s →
    (c : ℤ) × Common links n i i c
climbs {steps = steps} {n} K i l = let G = itself-at {steps = steps} n {i = i} in (G.gap, common K n (omega arith) i i G.gap G.path l G.tied)

-- the links of the first n ties
record Made (s : Sheet) (steps : List Step) (n : ℕ) : Type 0 where
  links : List ℕ
  kin : Kin s steps n links

module _ (s : Sheet) (S : Set) (steps : List Step) (terms : count_terms s ≤ 128) where
  made : (n : ℕ) → ((t : ℕ) → t < n → TieRight s S steps t (step_at steps t)) → Made s steps n
  made zero r = record { links = replicate 256 (top_of 1); kin = kin-start terms }
  made (suc n) r =
      let K = (made n (λ t l. r t (omega arith))).kin in
      let few = kin-few K in
      let t = tie-of (r n (omega arith)) in
      let A = climbs K t.a t.left in
      let B = climbs K t.b t.right in
      let a = t.left in
      let b = t.right in
      record {
        links = _;
        kin =
            kin-join K a b t.apart t.ties t.within
            (first_below {size = 0} (whole K.earlier (omega arith) (omega arith) A.1.left) (whole K.earlier (omega arith) (omega arith) B.1.left) (omega arith) refl);
      }

  pub few-ties : (n : ℕ) → ((t : ℕ) → t < n → TieRight s S steps t (step_at steps t)) → n ≤ count_terms s
  few-ties n r = kin-few (made n r).kin
