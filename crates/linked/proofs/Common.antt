-- Points that the first t ties have in one group climb to one point, and their gaps there differ by the gap between them; and a point is
-- of one group with those that it climbs to.
-- Assumes nothing.
use Prim.Native.Nat.{ℕ, zero, suc, ◌+◌, ◌-◌, ◌/◌, ◌%◌, ◌≤◌, ◌<◌}
use mathlib.Core.Path.{◌≡◌, refl}
use mathlib.Core.Logic.{⊎_elim}
use mathlib.Core.List.{List}
use lib.IntN.{ℤ, pos}
use native.Mathlib.Omega.{arith}
use native.Mathlib.Decide.{ℕ_discrete}
use Rattle.whole.proofs.Order.{order}
use Rattle.sheet.specs.Sheet.{Sheet, count_terms}
use Rattle.reasons.specs.Step.{Step, step_at}
use Rattle.reasons.specs.Rules.{Tied}
use Rattle.reasons.specs.Rules.Tied.{itself}
use Rattle.legs.specs.Legs.{range}
use Rattle.links.specs.Links.{root, by, up, gap, Climbs}
use Rattle.links.specs.Links.Climbs.{stays, rises}
use Rattle.links.proofs.Climbing.{climbs-one}
use Rattle.linked.specs.Known.{Differ, Across, Kin}
use Rattle.linked.proofs.Gaps.{both-moved, foot-gap, up-gap, down-gap}
use Rattle.reasons.proofs.Paths.{Grouped, on}
use Rattle.linked.proofs.Groups.{itself-at, lifted, across-tied, Last, last}
use Rattle.linked.proofs.Groups.Last.{earlier, upwards, downwards}

-- a climb that goes on by tie t
record Onwards (links : List ℕ) (t i y g k : ℕ) : Type 0 where
  sum : ℕ
  climbs : Climbs links (suc t) i y sum
  is : Differ sum g (pos k)

onwards : {links : List ℕ} {t i x y g k : ℕ} → Climbs links t i x g → Climbs links (suc t) x y k → Onwards links t i y g k
onwards {k = k} (stays h) C = record { sum = k; climbs = C; is = record { less = 0; more = 0; is = omega arith } }
onwards {links = links} (rises {i = i} {g = g} h D) C =
    let U = onwards D C in
    let l = U.is.less in
    let m = U.is.more in
    let e = U.is.is in
    record {
      sum = (gap links i + U.sum) % range;
      climbs = rises {i = i} (omega arith) U.climbs;
      is = record { less = l + (gap links i + U.sum) / range; more = m + (gap links i + g) / range; is = omega arith };
    }

pub topmost : {links : List ℕ} {t i x g : ℕ} → Climbs links t i x g → t ≤ by links x
topmost (stays h) = h
topmost (rises h C) = topmost C

-- i and j climb to one point
pub record Common (links : List ℕ) (t i j : ℕ) (c : ℤ) : Type 0 where
  pub top : ℕ
  pub g : ℕ
  pub left : Climbs links t i top g
  pub h : ℕ
  pub right : Climbs links t j top h
  pub differ : Differ g h c

-- where one of two points climbs, if the other climbs to z with gap p
pub record Rises (links : List ℕ) (t i z p : ℕ) (c : ℤ) : Type 0 where
  pub g : ℕ
  pub climbs : Climbs links t i z g
  pub differ : Differ g p c

pub record Falls (links : List ℕ) (t j z p : ℕ) (c : ℤ) : Type 0 where
  pub h : ℕ
  pub climbs : Climbs links t j z h
  pub differ : Differ p h c

module _ {links : List ℕ} {t i j z p : ℕ} {c : ℤ} (C : Common links t i j c) where
  pub the-left : Climbs links t j z p → Rises links t i z p c
  the-left D = let e = climbs-one C.right D in record { g = C.g; climbs = rw e.0 at C.left; differ = rw e.1 at C.differ }

  pub the-right : Climbs links t i z p → Falls links t j z p c
  the-right D = let e = climbs-one C.left D in record { h = C.h; climbs = rw e.0 at C.right; differ = rw e.1 at C.differ }

  -- and both
  pub the-gap : {g : ℕ} → Climbs links t i z g → Climbs links t j z p → Differ g p c
  the-gap A B = let R = the-left B in rw (climbs-one R.climbs A).1 at R.differ

-- the link by tie t, and the climbs of the tie's ends to the points below and above it
record Foot (s : Sheet) (steps : List Step) (links : List ℕ) (t : ℕ) : Type 0 where
  point : ℕ
  later : t < by links (up links point)
  k : ℕ
  climbs : Climbs links (suc t) point (up links point) k
  lower : ℕ
  lower-point : lower ≤ count_terms s
  upper : ℕ
  upper-point : upper ≤ count_terms s
  d : ℤ
  across : Across (step_at steps t) lower upper d
  p : ℕ
  low : Climbs links t lower point p
  q : ℕ
  high : Climbs links t upper (up links point) q
  differ : Differ (k + p) q d

module _ {s : Sheet} {steps : List Step} {n : ℕ} {links : List ℕ} (K : Kin s steps n links) where
  -- the first n ties have links, so they are few
  pub ties-small : n ≤ root
  ties-small = ⊎_elim (λ h. omega arith) (λ h. omega (arith, (K.each (n - 1) (omega arith)).linked)) (order n 0)

  up-point : {i : ℕ} → i ≤ count_terms s → by links i < n → up links i ≤ count_terms s
  up-point {i} h k = (K.hangs i (by links i) (omega (arith, K.terms)) refl (omega (arith, ties-small))).above

  -- all links are by the first n ties
  pub settled : {i x g : ℕ} → i ≤ count_terms s → Climbs links root i x g → Climbs links n i x g
  settled h (stays {i} k) = stays {i = i} (omega (arith, ties-small))
  settled h (rises {i} k C) =
      let e = K.earlier.earlier i (omega (arith, K.terms)) k in
      rises {i = i} e (settled (up-point h e) C)

  -- a point is of one group with those that it climbs to
  pub record Above (t i x : ℕ) : Type 0 where
    pub point : x ≤ count_terms s
    pub grouped : Grouped steps t i x

  pub above : {t i x g : ℕ} → t ≤ root → i ≤ count_terms s → Climbs links t i x g → Above t i x
  above {t} l h (stays k) = record { point = h; grouped = itself-at t }
  above {t} l h (rises {i} k C) =
      let H = K.hangs i (by links i) (omega (arith, K.terms)) refl (omega arith) in
      let A = above l H.above C in
      let T = lifted t k (across-tied H.to-lower H.across H.from-upper) in
      record { point = A.point; grouped = on T A.grouped.tied }

  -- a point that is topmost before tie t, and where it is after
  record Next (t x : ℕ) : Type 0 where
    top : ℕ
    sum : ℕ
    climbs : Climbs links (suc t) x top sum

  next : (t x : ℕ) → t < root → x ≤ count_terms s → t ≤ by links x → Next t x
  next t x l h k = go (ℕ_discrete (by links x) t)
    where
      go : Dec (by links x ≡ t) → Next t x
      go (yes e) =
          let r = K.rising.later x (omega (arith, K.terms)) (omega arith) in
          record { top = _; sum = _; climbs = rises {i = x} (omega arith) (stays {i = up links x} (omega arith)) }
      go (no e) = record { top = _; sum = _; climbs = stays {i = x} (omega arith) }

  abbrev Climb : ℕ → Type 0
  Climb t = (i j : ℕ) (c : ℤ) (p : List ℕ) → i ≤ count_terms s → Tied steps t i j c p → Common links t i j c

  foot : (t : ℕ) → t < n → Climb t → Foot s steps links t
  foot t l f =
      let record { point = z; there = there; by-is = e; linked = m } = K.each t l in
      let H = K.hangs z t there e m in
      let r = K.rising.later z there (omega arith) in
      let A = the-right (f z H.lower H.c H.first H.point H.to-lower) (stays {i = z} (omega arith)) in
      let B = the-left (f H.upper (up links z) H.e H.second H.upper-point H.from-upper) (stays {i = up links z} (omega arith)) in
      let same : gap links z ≡ (gap links z + 0) % range = omega arith in
      record {
        point = z;
        later = omega arith;
        k = (gap links z + 0) % range;
        climbs = rises {i = z} (omega arith) (stays {i = up links z} (omega arith));
        lower = H.lower;
        lower-point = H.lower-point;
        upper = H.upper;
        upper-point = H.upper-point;
        d = H.d;
        across = H.across;
        p = A.h;
        low = A.climbs;
        q = B.g;
        high = B.climbs;
        differ = foot-gap (rw same at H.gap_is) A.differ B.differ;
      }

  -- across the last tie, up or down, or not at all
  module _ (t : ℕ) (l : t < n) (f : Climb t) (F : Foot s steps links t) where
    over : (i j : ℕ) (c : ℤ) (p : List ℕ) → i ≤ count_terms s → Last steps t F.lower F.upper F.d i j c p → Common links (suc t) i j c
    over i j c p h (earlier T) =
        let C = f i j c p h T in
        let N = next t C.top (K.each t l).linked (above (omega (arith, (K.each t l).linked)) h C.left).point (topmost C.left) in
        let A = onwards C.left N.climbs in
        let B = onwards C.right N.climbs in
        record { top = _; g = _; left = A.climbs; h = _; right = B.climbs; differ = both-moved A.is B.is C.differ }
    over i j c p h (upwards {e} {f = e'} {p = p'} {q} T U is) =
        let R = the-left (f i F.lower e p' h T) F.low in
        let S = the-right (f F.upper j e' q F.upper-point U) F.high in
        let A = onwards R.climbs F.climbs in
        let B = onwards S.climbs (stays F.later) in
        let D = up-gap A.is B.is R.differ S.differ F.differ in
        record { top = _; g = _; left = A.climbs; h = _; right = B.climbs; differ = rw is D }
    over i j c p h (downwards {e} {f = e'} {p = p'} {q} T U is) =
        let R = the-left (f i F.upper e p' h T) F.high in
        let S = the-right (f F.lower j e' q F.lower-point U) F.low in
        let A = onwards R.climbs (stays F.later) in
        let B = onwards S.climbs F.climbs in
        let D = down-gap A.is B.is R.differ S.differ F.differ in
        record { top = _; g = _; left = A.climbs; h = _; right = B.climbs; differ = rw is D }

  pub common : (t : ℕ) → t ≤ n → Climb t
  common zero l i j c p h itself =
      let C : Climbs links 0 i i 0 = stays {i = i} (omega arith) in
      record { top = i; g = 0; left = C; h = 0; right = C; differ = record { less = 0; more = 0; is = refl } }
  common (suc t) l i j c p h T =
      let f = common t (omega arith) in
      let F = foot t l f in
      over t l f F i j c p h (last F.across T)
