-- The links of no tie, and those of one tie more: a topmost point of one end goes below that of the other.
-- Assumes nothing.
use Prim.Native.Nat.{ℕ, suc, ◌+◌, ◌-◌, ◌%◌, ◌≤◌, ◌<◌}
use mathlib.Core.Path.{◌≡◌, sym, ap, ◌∙◌}
use mathlib.Core.Logic.{◌≢◌, ⊎_elim}
use mathlib.Core.List.{List}
use lib.IntN.{ℤ}
use lib.ListN.{get_or, set, replicate, length-set, length-replicate, get_or-replicate}
use native.Mathlib.Nat.{eq-or-lt_of_le}
use native.Mathlib.Omega.{arith}
use Rattle.sheet.specs.Sheet.{Sheet, count_terms}
use Rattle.reasons.specs.Step.{Step, step_at}
use Rattle.reasons.specs.Rules.{Ties, Apart, TieWithin}
use Rattle.legs.specs.Legs.{range, gap_for}
use Rattle.links.specs.Links.{link_of, by_of, up_of, gap_of, root, top_of, by, up, Climbs, Joined}
use Rattle.links.specs.Links.Climbs.{stays}
use Rattle.links.specs.Links.Joined.{first_below, second_below}
use Rattle.links.proofs.Words.{by-link, up-link, gap-link}
use Rattle.links.proofs.Climbing.{gap-small as climbs-small}
use Rattle.links.proofs.Hanging.{at-lower, at-upper, at_other, three}
use Rattle.linked.specs.Known.{Differ, Across, Hangs, LinkedBy, Kin}
use Rattle.linked.specs.Known.Across.{first_below as first-end, second_below as second-end}
use Rattle.linked.proofs.Gaps.{gap-small, gap-differs, link-gap, first-gap, second-gap}
use Rattle.reasons.proofs.Paths.{turned, on}
use Rattle.linked.proofs.Common.{topmost, ties-small, settled, Above, above, common, the-gap}
use Rattle.linked.proofs.Few.{kin-few}

-- at first each point is topmost
pub start-by : (i : ℕ) → i < 256 → by (replicate 256 (top_of 1)) i ≡ root
start-by i h = ap by_of (get_or-replicate 256 i (top_of 1) 0 h)

pub kin-start : {s : Sheet} {steps : List Step} → count_terms s ≤ 128 → Kin s steps 0 (replicate 256 (top_of 1))
kin-start l = record {
  terms = l;
  size = length-replicate 256 (top_of 1);
  rising = record { later = λ i h k. absurd (omega (arith, start-by i h)) };
  earlier = record { earlier = λ i h k. absurd (omega (arith, start-by i h)) };
  hangs = λ i t h e k. absurd (omega (arith, start-by i h));
  each = λ t l. absurd (omega arith);
}

-- x, to which the lower end of tie n climbs, goes below y, to which the upper end climbs
module _ {s : Sheet} {steps : List Step} {n : ℕ} {links : List ℕ} (K : Kin s steps n links) (size k : ℕ) (size_small : size < 256)
    (k-small : k < range) {lower upper x y g h : ℕ} {d : ℤ} (lower-point : lower ≤ count_terms s) (upper-point : upper ≤ count_terms s)
    (across : Across (step_at steps n) lower upper d) (C : Climbs links root lower x g) (D : Climbs links root upper y h) (apart : x ≢ y)
    (differ : Differ (k + g) h d) where
  abbrev new : List ℕ
  new = set (set links x (link_of n y k)) y (top_of size)

  below : Above K n lower x
  below = above K (ties-small K) lower-point (settled K lower-point C)

  over : Above K n upper y
  over = above K (ties-small K) upper-point (settled K upper-point D)

  small : n < root
  small = omega (arith, kin-few K, K.terms)

  x-small : x < 256
  x-small = omega (arith, below.point, K.terms)

  y-small : y < 256
  y-small = omega (arith, over.point, K.terms)

  at_x : get_or new x 0 ≡ link_of n y k
  at_x = at-lower links x y (link_of n y k) (top_of size) apart (omega (arith, x-small, K.size))

  at_y : get_or new y 0 ≡ top_of size
  at_y = at-upper links x y (link_of n y k) (top_of size) (omega (arith, y-small, K.size))

  still : (i : ℕ) → i ≢ x → i ≢ y → get_or new i 0 ≡ get_or links i 0
  still = at_other links x y (link_of n y k) (top_of size)

  by-x : by new x ≡ n
  by-x = ap by_of at_x ∙ by-link n y k (omega (arith, small)) y-small k-small

  by-y : by new y ≡ root
  by-y = ap by_of at_y ∙ by-link root size 0 (omega arith) size_small (omega arith)

  by-other : (i : ℕ) → i ≢ x → i ≢ y → by new i ≡ by links i
  by-other i p q = ap by_of (still i p q)

  by-above : (v i : ℕ) → v < n → v < by links i → v < by new i
  by-above v i l m =
      three x y i (λ e. rw e (omega (arith, by-y, small))) (λ q e. rw e (omega (arith, by-x))) (λ p q. omega (arith, by-other i p q))

  up-x : up new x ≡ y
  up-x = ap up_of at_x ∙ up-link n y k (omega (arith, small)) y-small k-small

  -- a point that is linked is x, or has the link that it had
  linked : {A : Type 0} (i : ℕ) → by new i < root → (i ≡ x → A) → (get_or new i 0 ≡ get_or links i 0 → A) → A
  linked i m f g = three x y i (λ e. absurd (omega (arith, by-y, ap (λ (v : ℕ). by new v) e))) (λ q e. f e) (λ p q. g (still i p q))

  later : (i : ℕ) → i < 256 → by new i < root → by new i < by new (up new i)
  later i l m = linked i m (λ e. rw (e, up-x, by-x, by-y) small) (λ e. rw e (kept (omega (arith, ap by_of e))))
    where
      kept : by links i < root → by links i < by new (up links i)
      kept r = by-above (by links i) (up links i) (K.earlier.earlier i l r) (K.rising.later i l r)

  earlier : (i : ℕ) → i < 256 → by new i < root → by new i < suc n
  earlier i l m = linked i m (λ e. rw (e, by-x) (omega arith)) (λ e. rw e (kept (omega (arith, ap by_of e))))
    where
      kept : by links i < root → by links i < suc n
      kept r = omega (arith, K.earlier.earlier i l r)

  hang : (link : ℕ) → up_of link ≡ y → gap_of link ≡ k → Hangs s steps n x link
  hang link e f =
      let B = turned below.grouped.tied in
      let O = over.grouped in
      let X = common K n (omega arith) x lower B.gap B.path below.point B.tied in
      let Y = common K n (omega arith) upper y O.gap O.path upper-point O.tied in
      let gap-x = the-gap X (stays {i = x} (top C)) (settled K lower-point C) in
      let gap-y = the-gap Y (settled K upper-point D) (stays {i = y} (top D)) in
      record {
        point = below.point;
        above = rw e over.point;
        lower = lower;
        lower-point = lower-point;
        upper = upper;
        upper-point = upper-point;
        d = d;
        across = across;
        c = B.gap;
        first = B.path;
        to-lower = B.tied;
        e = O.gap;
        second = O.path;
        from-upper = rw e O.tied;
        gap_is = rw f (link-gap differ gap-x gap-y);
      }
    where
      top : {i z v : ℕ} → Climbs links root i z v → n ≤ by links z
      top C = omega (arith, topmost C, small)

  hangs : (i t : ℕ) → i < 256 → by new i ≡ t → t < root → Hangs s steps t i (get_or new i 0)
  hangs i t l e m = linked i (omega arith) new-one (λ f. rw f (kept (omega (arith, ap by_of f))))
    where
      new-one : i ≡ x → Hangs s steps t i (get_or new i 0)
      new-one f =
          let v : t ≡ n = sym e ∙ ap (λ (v : ℕ). by new v) f ∙ by-x in
          rw (v, f, at_x)
          (hang (link_of n y k) (up-link n y k (omega (arith, small)) y-small k-small) (gap-link n y k (omega (arith, small)) y-small k-small))

      kept : by links i ≡ t → Hangs s steps t i (get_or links i 0)
      kept f = K.hangs i t l f m

  each : (t : ℕ) → t < suc n → LinkedBy new t
  each t l = ⊎_elim new-one (λ r. kept (K.each t r) r) (eq-or-lt_of_le {n = t} {m = n} (omega arith))
    where
      new-one : t ≡ n → LinkedBy new t
      new-one e = record { point = x; there = x-small; by-is = by-x ∙ sym e; linked = omega (arith, small) }

      kept : LinkedBy links t → t < n → LinkedBy new t
      kept L r =
          let p : L.point ≢ x = λ e. omega (arith, topmost C, small, L.by-is, ap (λ (v : ℕ). by links v) e) in
          let q : L.point ≢ y = λ e. omega (arith, topmost D, small, L.by-is, ap (λ (v : ℕ). by links v) e) in
          record { point = L.point; there = L.there; by-is = by-other L.point p q ∙ L.by-is; linked = L.linked }

  put : Kin s steps (suc n) new
  put = record {
    terms = K.terms;
    size = length-set (set links x (link_of n y k)) y (top_of size) ∙ length-set links x (link_of n y k) ∙ K.size;
    rising = record { later = later };
    earlier = record { earlier = earlier };
    hangs = hangs;
    each = each;
  }

pub kin-join : {s : Sheet} {steps : List Step} {n : ℕ} {links links' : List ℕ} {a b : ℕ} {c : ℤ} → Kin s steps n links →
    a ≤ count_terms s → b ≤ count_terms s → Apart steps n a b → Ties (step_at steps n) a b c → TieWithin c → Joined links links' n a b (gap_for c) →
    Kin s steps (suc n) links'
kin-join {s} {steps} {n} {links} {links'} {a} {b} {c} K p q apart t w joined = go joined
  where
    tie-small : gap_for c < range
    tie-small = gap-small c (omega (arith, w.0))

    differ : Differ (gap_for c) 0 c
    differ = gap-differs c (omega (arith, w.1))

    two : {x y g h : ℕ} → Climbs links root a x g → Climbs links root b y h → x ≢ y
    two C D e =
        let A = (above K (ties-small K) p (settled K p C)).grouped.tied in
        let B = (turned (above K (ties-small K) q (settled K q (rw (sym e) at D))).grouped.tied).tied in
        let G = on A B in
        apart G.gap G.path G.tied

    go : Joined links links' n a b (gap_for c) → Kin s steps (suc n) links'
    go (first_below {x} {g} {y} {h} {size = z} C D l e) =
        rw e (put K z ((gap_for c + h + (range - g)) % range) l (omega arith) p q (first-end t) C D (two C D) (first-gap (climbs-small C) differ))
    go (second_below {x} {g} {y} {h} {size = z} C D l e) =
        rw e (put K z ((g + (range - gap_for c) + (range - h)) % range) l (omega arith) q p (second-end t) D C (λ f. two C D (sym f))
        (second-gap tie-small (climbs-small D) differ))
