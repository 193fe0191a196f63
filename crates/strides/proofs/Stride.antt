-- One stride: a stand that goes further by a leg, as a gap that is added to its own.
-- Assumes nothing.
use Prim.Native.Nat.{ℕ, suc, ◌+◌, ◌*◌, ◌^◌, ◌≤◌, ◌<◌}
use mathlib.Core.Path.{◌≡◌, refl, sym, ◌∙◌, ap, ap₂}
use mathlib.Core.Bool.{Bool, true, false, ◌||◌}
use lib.Dec.{eqb}
use lib.IntN.{ℤ, pos, neg_ℤ, ◌+ℤ◌, +ℤ_idr, +ℤ_assoc}
use native.Mathlib.Omega.{arith}
use Rattle.whole.specs.Whole.{plus, minus}
use Rattle.whole.proofs.Parts.{add_parts, neg-plus, neg-minus}
use Rattle.big.proofs.Bytes.{complement-fits}
use Rattle.kind.specs.Kind.{Kind, weak, zero_gap, added}
use Rattle.reasons.specs.Rules.{TieWithin}
use Rattle.legs.specs.Legs.{range, gap_for, word_of, way_of, gap_of, from_of, to_of, strictly, either_way, Further}
use Rattle.legs.specs.Legs.Further.{forth, back}
use Rattle.legs.specs.declared.Stand.{Stand}
use Rattle.legs.proofs.Words.{way-word, gap_word, from-word, to_word}
use Rattle.strides.specs.Trodden.{kind_for}
use Rattle.strides.proofs.Gaps.{parts-most, gap-forth, gap_back}

-- from s to t a total is added, of m bounds within 2^31 each
pub record Adds (s t : Stand) (total : Kind) (m : ℕ) : Type 0 where
  pub strict : Bool
  pub sum : ℤ
  pub total-is : total ≡ kind_for strict sum
  pub strict-is : t.strict ≡ (s.strict || strict)
  pub up : plus sum ≤ m * 2 ^ 31
  pub down : minus sum ≤ m * 2 ^ 31
  pub gap_is : (z : ℤ) → plus z + m * 2 ^ 31 < 2 ^ 39 → minus z + m * 2 ^ 31 < 2 ^ 39 → s.gap ≡ gap_for z → t.gap ≡ gap_for (z +ℤ sum)

or-false : (a : Bool) → a ≡ (a || false)
or-false true = refl
or-false false = refl

or_assoc : (a b c : Bool) → ((a || b) || c) ≡ (a || (b || c))
or_assoc true b c = refl
or_assoc false b c = refl

pub adds_none : {s : Stand} → Adds s s zero_gap 0
adds_none {s} = record {
  strict = false;
  sum = pos 0;
  total-is = refl;
  strict-is = or-false s.strict;
  up = omega arith;
  down = omega arith;
  gap_is = λ z p q e. e ∙ ap gap_for (sym (+ℤ_idr z));
}

both : (a b : Bool) (c d : ℤ) → added (kind_for a c) (kind_for b d) ≡ kind_for (a || b) (c +ℤ d)
unfolding added
both true true c d = refl
both true false c d = refl
both false true c d = refl
both false false c d = refl

-- the parts of a sum are at most the sums of the parts
sum-parts : (x y : ℤ) → (plus (x +ℤ y) ≤ plus x + plus y) × (minus (x +ℤ y) ≤ minus x + minus y)
sum-parts x y = parts-most (x +ℤ y) (plus x + plus y) (minus x + minus y) (omega (arith, add_parts x y))

pub adds-more : {s t u : Stand} {g total : Kind} {m : ℕ} → Adds s t g 1 → Adds t u total m → Adds s u (added g total) (suc m)
adds-more {s} A B =
    let parts = sum-parts A.sum B.sum in
    record {
      strict = A.strict || B.strict;
      sum = A.sum +ℤ B.sum;
      total-is = ap₂ added A.total-is B.total-is ∙ both A.strict B.strict A.sum B.sum;
      strict-is = B.strict-is ∙ ap (λ (b : Bool). b || B.strict) A.strict-is ∙ or_assoc s.strict A.strict B.strict;
      up = omega arith;
      down = omega arith;
      gap_is = λ z p q e.
          B.gap_is (z +ℤ A.sum) (omega (arith, sum-parts z A.sum)) (omega (arith, sum-parts z A.sum))
          (A.gap_is z (omega arith) (omega arith) e) ∙
          ap gap_for (+ℤ_assoc z A.sum B.sum);
    }

-- a leg that may be gone this way, with the gap of c and these ends
pub record Word (leg way : ℕ) (c : ℤ) (from to : ℕ) : Type 0 where
  pub way-is : way_of leg ≡ way
  pub gap_is : gap_of leg ≡ gap_for c
  pub from_is : from_of leg ≡ from
  pub to_is : to_of leg ≡ to
  pub near : TieWithin c

pub word : {leg way from to : ℕ} {c : ℤ} → leg ≡ word_of way (gap_for c) from to → from < 256 → to < 256 → TieWithin c → Word leg way c from to
word {way} {from} {to} {c} e from< to< near =
    let gap< : gap_for c < range = complement-fits 5 c (omega arith) (omega arith) in
    record {
      way-is = rw e (way-word way (gap_for c) from to gap< from< to<);
      gap_is = rw e (gap_word way (gap_for c) from to gap< from< to<);
      from_is = rw e (from-word way (gap_for c) from to gap< from< to<);
      to_is = rw e (to_word way (gap_for c) from to gap< from< to<);
      near = near;
    }

-- the leg passes from i to j with the gap g, forwards or turned
pub data Passes (leg : ℕ) : (turned i j : ℕ) (g : Kind) → Type 0 where
  ahead : {way i j : ℕ} {c : ℤ} → Word leg way c i j → 0 < way → Passes leg 0 i j (kind_for (eqb way strictly) c)
  behind : {i j : ℕ} {c : ℤ} → Word leg either_way c j i → Passes leg 1 i j (weak (neg_ℤ c))

-- and so a stand goes further by it
pub record Paced (leg turned : ℕ) (s : Stand) (j : ℕ) (g : Kind) : Type 0 where
  pub end : Stand
  pub further : Further leg turned s end
  pub at-is : end.at ≡ j
  pub adds : Adds s end g 1

pub passes-paced : {leg turned j : ℕ} {g : Kind} (s : Stand) → Passes leg turned s.at j g → Paced leg turned s j g
passes-paced s (ahead {way} {c} W w) = record {
  end = _;
  further = forth (omega (arith, W.way-is)) W.from_is;
  at-is = W.to_is;
  adds = record {
    strict = eqb way strictly;
    sum = c;
    total-is = refl;
    strict-is = ap (λ (n : ℕ). s.strict || eqb n strictly) W.way-is;
    up = omega (arith, W.near);
    down = omega (arith, W.near);
    gap_is = λ z p q e. rw (e, W.gap_is) (gap-forth z c (omega (arith, W.near)) (omega (arith, W.near)));
  };
}
passes-paced s (behind {c} W) = record {
  end = _;
  further = back W.way-is W.to_is;
  at-is = W.from_is;
  adds = record {
    strict = false;
    sum = neg_ℤ c;
    total-is = refl;
    strict-is = or-false s.strict;
    up = omega (arith, W.near, neg-plus c);
    down = omega (arith, W.near, neg-minus c);
    gap_is = λ z p q e. rw (e, W.gap_is) (gap_back z c (omega (arith, W.near)) (omega (arith, W.near)));
  };
}
