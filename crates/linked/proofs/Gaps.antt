-- Gaps of whole numbers: they add up but for multiples of the range, and within half of it one whole number has a gap.
-- Assumes nothing.
use Prim.Native.Nat.{ℕ, ◌+◌, ◌-◌, ◌/◌, ◌%◌, ◌≤◌, ◌<◌}
use mathlib.Core.Path.{◌≡◌}
use lib.IntN.{ℤ, pos, negsuc, neg_ℤ, ◌+ℤ◌}
use native.Mathlib.Omega.{arith}
use Rattle.whole.specs.Whole.{plus, minus}
use Rattle.whole.proofs.Parts.{add_parts, neg-plus, neg-minus}
use Rattle.big.specs.Big.{complement_of}
use Rattle.legs.specs.Legs.{range, gap_for}
use Rattle.linked.specs.Known.{Differ}

pub gap-small : (c : ℤ) → plus c < range → gap_for c < range
unfolding complement_of
gap-small (pos n) h = h
gap-small (negsuc n) h = omega arith

pub gap-differs : (c : ℤ) → minus c ≤ range → Differ (gap_for c) 0 c
unfolding complement_of
gap-differs (pos n) h = record { less = 0; more = 0; is = omega arith }
gap-differs (negsuc n) h = record { less = 0; more = 1; is = omega arith }

pub differs-gap : {g : ℕ} (c : ℤ) → g < range → plus c < range → minus c ≤ range → Differ g 0 c → g ≡ gap_for c
unfolding complement_of
differs-gap (pos n) l h k D = omega arith
differs-gap (negsuc n) l h k D = omega arith

-- two gaps that are moved by the same
pub both-moved : {a b g h k : ℕ} {c : ℤ} → Differ a g (pos k) → Differ b h (pos k) → Differ g h c → Differ a b c
both-moved A B D =
    let record { less = l; more = m; is = e } = A in
    let record { less = l'; more = m'; is = e' } = B in
    let record { less = l''; more = m''; is = e'' } = D in
    record { less = l + m' + l''; more = m + l' + m''; is = omega arith }

-- a link's gap k, by the gaps p of the tie's lower end and q of its upper end: first of the tie, then of points that it joins
pub foot-gap : {k p q : ℕ} {c d e : ℤ} → Differ k 0 (c +ℤ (d +ℤ e)) → Differ 0 p c → Differ q 0 e → Differ (k + p) q d
foot-gap {c = c} {d} {e} A B D =
    let record { less = l; more = m; is = i } = A in
    let record { less = l'; more = m'; is = i' } = B in
    let record { less = l''; more = m''; is = i'' } = D in
    record { less = l + m' + m''; more = m + l' + l''; is = omega (arith, add_parts d e, add_parts c (d +ℤ e)) }

pub up-gap : {a b g h k p q : ℕ} {e f d : ℤ} → Differ a g (pos k) → Differ b h (pos 0) → Differ g p e → Differ q h f → Differ (k + p) q d →
    Differ a b (e +ℤ (d +ℤ f))
up-gap {e = e} {f} {d} A B C D F =
    let record { less = l; more = m; is = i } = A in
    let record { less = l'; more = m'; is = i' } = B in
    let record { less = l2; more = m2; is = i2 } = C in
    let record { less = l3; more = m3; is = i3 } = D in
    let record { less = l4; more = m4; is = i4 } = F in
    record { less = l + m' + l2 + l3 + l4; more = m + l' + m2 + m3 + m4; is = omega (arith, add_parts d f, add_parts e (d +ℤ f)) }

pub down-gap : {a b g h k p q : ℕ} {e f d : ℤ} → Differ a g (pos 0) → Differ b h (pos k) → Differ g q e → Differ p h f → Differ (k + p) q d →
    Differ a b (e +ℤ (neg_ℤ d +ℤ f))
down-gap {e = e} {f} {d} A B C D F =
    let record { less = l; more = m; is = i } = A in
    let record { less = l'; more = m'; is = i' } = B in
    let record { less = l2; more = m2; is = i2 } = C in
    let record { less = l3; more = m3; is = i3 } = D in
    let record { less = l4; more = m4; is = i4 } = F in
    record {
      less = l + m' + l2 + l3 + m4;
      more = m + l' + m2 + m3 + l4;
      is = omega (arith, add_parts (neg_ℤ d) f, add_parts e (neg_ℤ d +ℤ f), neg-plus d, neg-minus d);
    }

-- the difference of two gaps, as it is told
pub told-gap : {g h : ℕ} {c : ℤ} → h < range → Differ g h c → Differ ((g + (range - h)) % range) 0 c
told-gap {g} {h} small D =
    let record { less = l; more = m; is = e } = D in
    record { less = l + (g + (range - h)) / range; more = m + 1; is = omega arith }

-- and that of a new link, by the gaps of the tie's ends, from those and as the tie has it
pub link-gap : {k p q : ℕ} {c d e : ℤ} → Differ (k + p) q d → Differ 0 p c → Differ q 0 e → Differ k 0 (c +ℤ (d +ℤ e))
link-gap {c = c} {d} {e} A B D =
    let record { less = l; more = m; is = i } = A in
    let record { less = l'; more = m'; is = i' } = B in
    let record { less = l''; more = m''; is = i'' } = D in
    record { less = l + l' + l''; more = m + m' + m''; is = omega (arith, add_parts d e, add_parts c (d +ℤ e)) }

pub first-gap : {t p q : ℕ} {c : ℤ} → p < range → Differ t 0 c → Differ ((t + q + (range - p)) % range + p) q c
first-gap {t} {p} {q} small D =
    let record { less = l; more = m; is = e } = D in
    record { less = l + (t + q + (range - p)) / range; more = m + 1; is = omega arith }

pub second-gap : {t p q : ℕ} {c : ℤ} → t < range → p < range → Differ t 0 c → Differ ((q + (range - t) + (range - p)) % range + p) q (neg_ℤ c)
second-gap {t} {p} {q} {c} small small' D =
    let record { less = l; more = m; is = e } = D in
    record { less = m + (q + (range - t) + (range - p)) / range; more = l + 2; is = omega (arith, neg-plus c, neg-minus c) }
