-- A cell that a walk reaches is reached by one that visits no point twice, so it is no further from zero than that many bounds.
-- Assumes nothing.
use Prim.Native.Nat.{ℕ, ◌≤◌, ◌<◌}
use mathlib.Core.Path.{◌≡◌}
use mathlib.Core.List.Memᴰ.{head as here}
use mathlib.Core.List.Memᴰ.{not-nil}
use mathlib.Core.List.Memᴰ.{tail as later}
use mathlib.Core.List.{List, Memᴰ as In}
use lib.ListN.{length}
use native.Mathlib.Omega.{arith}
use Rattle.kind.specs.Code.{none, Within}
use Rattle.kind.specs.Kind.{Kind, zero_gap, added, kind_of}
use Rattle.closure.specs.Walk.{Tight, Near, Walk, Reached, Among}
use Rattle.closure.specs.Walk.Walk.{stop, step}
use Rattle.closure.specs.Table.{reach, Held}
use Rattle.closure.proofs.Order.{tight-refl, tight-trans, tight-same, added-assoc, added-mono, grow, shrink}
use Rattle.closure.proofs.Order.Is.{plain}
use Rattle.whole.proofs.Pigeon.{Distinct, in?, pigeon}
use Rattle.whole.proofs.Pigeon.Distinct.{end, more}
use Rattle.closure.proofs.Range.{near-is, near-added, within}
use Rattle.closure.proofs.Relax.{Sums}
use Rattle.closure.proofs.Walks.{reached, looser, first}

-- a table's gaps
abbrev pub kinds : (ℕ → ℕ → ℕ) → ℕ → ℕ → Kind
kinds d i j = kind_of (d i j)

-- a walk over the bounds E that visits no point twice
pub record Short (E : ℕ → ℕ → Kind → Type 0) (i k : ℕ) (t : Kind) : Type 0 where
  pub way : Reached E i k t
  pub distinct : Distinct way.points

-- bounds E that the table holds
module _ (N : ℕ) (d : ℕ → ℕ → ℕ) (S : Sums N (kinds d)) (E : ℕ → ℕ → Kind → Type 0) (A : Among E (Held N d)) where
  of : {i j : ℕ} {g : Kind} → E i j g → Held N d i j g
  of e = A.more e

  -- what a walk from j has left at i
  record Cut (j i k : ℕ) (t : Kind) : Type 0 where
    rest : Kind
    short : Short E i k rest
    less : Tight (added (kinds d j i) rest) t

  cut-here : {j i k : ℕ} {t : Kind} {ps : List ℕ} → i ≡ j → j < N → Walk E j k t ps → Distinct ps → Cut j i k t
  cut-here {j} {t = t} e q w D =
      rw e (record { rest = t; short = record { way = reached w; distinct = D }; less = shrink (kinds d j j) t (S.low j q) })

  cut-there : {h j i k : ℕ} {g t : Kind} → i < N → E h j g → Cut j i k t → Cut h i k (added g t)
  cut-there {h} {j} {i} p e C =
      let over = added-mono _ _ _ _ (S.tri h i j (of e).from p (of e).to) (tight-refl C.rest) in
      record {
        rest = C.rest;
        short = C.short;
        less = tight-trans _ _ _ (tight-same _ over (added-assoc _ _ _)) (added-mono _ _ _ _ (of e).held C.less);
      }

  cut : {j i k : ℕ} {t : Kind} {ps : List ℕ} → i < N → j < N → Walk E j k t ps → In i ps → Distinct ps → Cut j i k t
  cut p q stop (here f) D = cut-here f q stop D
  cut p q stop (later m) D = absurd (not-nil m)
  cut p q (step e w) (here f) D = cut-here f q (step e w) D
  cut p q (step e w) (later m) (more h D) = cut-there p e (cut p (of e).to w m D)

  -- a bound and the way back aren't under zero
  loop : {i j : ℕ} {g : Kind} → E i j g → Tight zero_gap (added g (kinds d j i))
  loop {i} {j} e =
      tight-trans _ _ _ (S.high i (of e).from)
      (tight-trans _ _ _ (S.tri i i j (of e).from (of e).from (of e).to) (added-mono _ _ _ _ (of e).held (tight-refl (kinds d j i))))

  -- what a walk has left where it comes back to its first point will do
  shorten-step : {i j k : ℕ} {g t : Kind} → E i j g → (s : Short E j k t) → Dec (In i s.way.points) → Short E i k (added g t)
  shorten-step {g = g} e s (no h) = record { way = first g e s.way; distinct = more h s.distinct }
  shorten-step {g = g} e s (yes m) =
      let C = cut (of e).from (of e).to s.way.walk m s.distinct in
      let rest = added-mono _ _ _ _ (tight-refl g) (tight-trans _ _ _ C.less s.way.tight) in
      record {
        way = looser (tight-trans _ _ _ (tight-same _ (grow _ _ (loop e)) (added-assoc _ _ _)) rest) C.short.way;
        distinct = C.short.distinct;
      }

  pub shorten : {i k : ℕ} {t : Kind} {ps : List ℕ} → Walk E i k t ps → Short E i k t
  shorten stop = record { way = reached stop; distinct = more not-nil end }
  shorten (step {i} e w) = let s = shorten w in shorten-step e s (in? i s.way.points)

  pub below : {i k : ℕ} {t : Kind} {ps : List ℕ} → i < N → Walk E i k t ps → (v : ℕ) → In v ps → v < N
  below p stop v (here f) = omega arith
  below p stop v (later m) = absurd (not-nil m)
  below p (step e w) v (here f) = omega arith
  below p (step e w) v (later m) = below (of e).to w v m

  -- a table that holds its sums is at least as tight as every walk
  pub least : {i k : ℕ} {t : Kind} {ps : List ℕ} → i < N → k < N → Walk E i k t ps → Tight (kinds d i k) t
  least p q (stop {i}) = S.low i p
  least p q (step {i} {j} {k} e w) = tight-trans _ _ _ (S.tri i k j p q (of e).to) (added-mono _ _ _ _ (of e).held (least (of e).to q w))

  near : {i k : ℕ} {t : Kind} {ps : List ℕ} → Walk E i k t ps → Near (reach (length ps)) t
  near stop = (near-is _ plain).1 (omega arith, omega arith)
  near (step e w) = near-added _ _ _ _ _ (omega arith) (of e).near (near w)

  pub range : (i k : ℕ) → i < N → k < N → d i k ≤ none → Reached E i k (kinds d i k) → Within (reach N) (d i k)
  range i k p q top r =
      let s = shorten r.walk in
      let w = s.way.walk in
      within _ _ _ _ (omega (arith, pigeon N s.distinct (below p w))) top (near w)
      (tight-trans _ _ _ s.way.tight r.tight)
      (least p q w)
