-- A table that rests on listed bounds: the least walk over them comes to its cell, and the next of them, where it is refused, closes one.
-- Assumes nothing.
use Prim.Native.Nat.{ℕ, ◌≤◌, ◌<◌}
use mathlib.Core.Path.{◌≡◌, refl, ◌∙◌}
use mathlib.Core.List.{List, [], ◌∷◌}
use lib.IntN.{ℤ, neg_ℤ}
use lib.ListN.{length, take, length-take}
use native.Mathlib.Omega.{arith}
use Rattle.kind.specs.Code.{none, base, sum_of}
use Rattle.kind.specs.Kind.{Kind, weak, added, kind_of}
use Rattle.kind.proofs.Codes.{sum-there}
use Rattle.closure.specs.Closed.{TiedAt}
use Rattle.closure.specs.Walk.Walk.{stop as ended, step as further}
use Rattle.closure.proofs.Order.{tight-antisym}
use Rattle.walked.specs.Borne.{Exact, Few}
use Rattle.walked.proofs.Found.{no-tighter, shortest, under, kind-to, kind-back}
use Rattle.layers.specs.Bounds.{Bounds, bounds, from_at, to_at, code_at, from, to, code, Sound, Listed, Goes, Reachable, Least, Closing}
use Rattle.layers.specs.declared.Bound.{Bound}
use Rattle.layers.specs.Bounds.Goes.{stop, step}

listed : (B : Bounds) (e : ℕ) → e < B.count → Listed B (from B e) (to B e) (kind_of (code B e))
listed B e e< = record { number = e; there = e<; starts = refl; ends = refl; gap = refl }

-- numbers of bounds that are a walk are one over the listed bounds
pub goes-walk : {B : Bounds} {i k : ℕ} {t : Kind} {es : List ℕ} → Goes B i k t es → Few (Listed B) (length es) i k t
goes-walk {B} {i} stop = record { points = i ∷ []; walk = ended; few = omega arith }
goes-walk {B} (step e e< w) =
    let r = goes-walk w in
    record { points = from B e ∷ r.points; walk = further (listed B e e<) r.walk; few = omega (arith, r.few) }

-- where a table rests on the listed bounds, the least walk is the total of its cell
module _ (n : ℕ) (B : Bounds) (d : ℕ → ℕ → ℕ) (X : Exact n (Listed B) d) (a b : ℕ) (a< : a < n) (b< : b < n) (l : d a b < none) where
  pub reachable : Reachable n B a b
  reachable = record { total = kind_of (d a b); way = shortest n (Listed B) d X a b a< b< l }

  pub total-is : (o out : List ℕ) (k : ℕ) (L : Least n B a b o out k) → L.total ≡ kind_of (d a b)
  total-is o out k L =
      tight-antisym _ _ (L.least (shortest n (Listed B) d X a b a< b< l)) (no-tighter n (Listed B) d X a b a< b< (goes-walk L.goes).walk)

-- of two points tied at c, the least walk there comes to c, and the one back to -c
module _ (n : ℕ) (B : Bounds) (d : ℕ → ℕ → ℕ) (X : Exact n (Listed B) d) (i j : ℕ) (c : ℤ) (i< : i < n) (j< : j < n) (t : TiedAt d i j c) where
  pub tie-to : (o out : List ℕ) (k : ℕ) → Least n B i j o out k → Goes B i j (weak c) (take k out)
  tie-to o out k L =
      let e = total-is n B d X i j i< j< t.to.there o out k L ∙ kind-to n (Listed B) d X i j c i< j< t in
      rw e at L.goes

  pub tie-back : (o out : List ℕ) (k : ℕ) → Least n B j i o out k → Goes B j i (weak (neg_ℤ c)) (take k out)
  tie-back o out k L =
      let e = total-is n B d X j i j< i< t.back.there o out k L ∙ kind-back n (Listed B) d X i j c i< j< t in
      rw e at L.goes

-- fewer bounds of the same list, and more
pub sound-fewer : {n k m : ℕ} {list : List Bound} → k ≤ m → Sound n (bounds m list) → Sound n (bounds k list)
sound-fewer l S =
    record {
      few = omega (arith, S.few);
      all_bounds = omega (arith, S.all_bounds);
      from< = λ e e<. S.from< e (omega arith);
      to< = λ e e<. S.to< e (omega arith);
      there = λ e e<. S.there e (omega arith);
      near = λ e e<. S.near e (omega arith);
    }

pub goes-more : {list : List Bound} {k m i j : ℕ} {t : Kind} {es : List ℕ} → k ≤ m → Goes (bounds k list) i j t es
    → Goes (bounds m list) i j t es
goes-more l stop = stop
goes-more l (step e e< w) = step e (omega arith) (goes-more l w)

-- bound r closes a walk under zero: the least walk back, with it in front
module _ (n m r : ℕ) (list : List Bound) (r< : r < m) (S : Sound n (bounds m list)) (d : ℕ → ℕ → ℕ)
    (X : Exact n (Listed (bounds r list)) d) (u : sum_of (code_at list r) (d (to_at list r) (from_at list r)) < base) where
  pub there : d (to_at list r) (from_at list r) < none
  there = (sum-there (code_at list r) (d (to_at list r) (from_at list r)) (omega arith)).1

  pub way_back : Reachable n (bounds r list) (to_at list r) (from_at list r)
  way_back = reachable n _ d X _ _ (S.to< r r<) (S.from< r r<) there

  pub closing : (o out : List ℕ) (k : ℕ) → Least n (bounds r list) (to_at list r) (from_at list r) o out k
      → Closing n (bounds m list) (from_at list r) (r ∷ take k out)
  closing o out k L =
      let t = total-is n _ d X _ _ (S.to< r r<) (S.from< r r<) there o out k L in
      record {
        total = added (kind_of (code_at list r)) L.total;
        goes = step r r< (goes-more (omega arith) L.goes);
        under = rw t (under n _ d X _ _ _ (S.from< r r<) (S.to< r r<) (S.near r r<) u);
        few = simp length-take (omega (arith, L.few));
      }
