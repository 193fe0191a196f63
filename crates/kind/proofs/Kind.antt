-- The codes are the gap kind: a gap has one code, and sums, the tighter of two and what is said of levels are the kind's.
-- Assumes nothing.
use Prim.Native.Nat.{ℕ, ◌+◌, ◌*◌, ◌-◌, ◌/◌, ◌%◌, ◌≤◌, ◌<◌, max}
use mathlib.Core.Path.{◌≡◌, refl, sym}
use mathlib.Core.Bool.{Bool, true, false, cond}
use mathlib.Core.Logic.{◌↔◌, ⊎_elim}
use lib.Dec.{eqb}
use lib.IntN.{ℤ, pos, sub_ℕ, ◌+ℤ◌}
use native.Mathlib.Omega.{arith}
use borrow.Author.Tests.{lt-ltb, le-ltb, leb-true, leb-false}
use Rattle.whole.specs.Whole.{plus, minus}
use Rattle.whole.proofs.Parts.{sub_parts, add_parts, parts-inj}
use Rattle.kind.specs.Code.{none, half, base, sum_of, tighter_of, Addable}
use Rattle.kind.specs.Meets.{Meets, whole_of}
use Rattle.kind.specs.Kind.{Kind, no_gap, weak, strict, zero_gap, under_zero, added, at_most, tighter_kind, Says, kind_of}
use Rattle.kind.proofs.Flat.{parity, meets}
use Rattle.kind.proofs.Codes.{there, sum-finite, sum-none-left, sum-none-right, sum-halves, sum-mark, code_is}
use Rattle.kind.proofs.Laws.{meets-two}

-- weak or strict by the mark of a code, so that what holds of either is said once
abbrev pub marked : ℕ → ℤ → Kind
marked m c = cond (eqb m 0) (weak c) (strict c)

kind-there : (g : ℕ) → g < none → kind_of g ≡ marked (g % 2) (whole_of g)
unfolding kind_of
kind-there g p = simp (lt-ltb g none p)

pub kind-none : (g : ℕ) → none ≤ g → kind_of g ≡ no_gap
unfolding kind_of
kind-none g p = simp (le-ltb g none p)

pub kind-weak : (g : ℕ) → g < none → g % 2 ≡ 0 → kind_of g ≡ weak (whole_of g)
kind-weak g p e = rw e at (kind-there g p)

pub kind-strict : (g : ℕ) → g < none → g % 2 ≡ 1 → kind_of g ≡ strict (whole_of g)
kind-strict g p e = rw e at (kind-there g p)

pub kind-three : (kind_of none ≡ no_gap) × (kind_of base ≡ zero_gap) × (kind_of (base - 1) ≡ under_zero)
unfolding kind_of
kind-three = (refl, refl, refl)

halved : (g : ℕ) → plus (whole_of g) + half ≡ (g + 1) / 2 + minus (whole_of g)
halved g = sub_parts ((g + 1) / 2) half

-- the code of a gap as one equation of natural numbers, so that `omega` tells the gap of whatever code is computed
pub kind-is : (g m : ℕ) (c : ℤ) → g < none → m < 2 → g + m + 2 * minus c ≡ base + 2 * plus c → kind_of g ≡ marked m c
kind-is g m c p l e =
    let i : g % 2 ≡ m = omega arith in
    let j : whole_of g ≡ c = parts-inj _ _ (omega (arith, halved g)) in
    rw (i, j) at (kind-there g p)

pub kind-whole : (up down : ℕ) → up < half → down ≤ half → kind_of (base + 2 * up - 2 * down) ≡ weak (sub_ℕ up down)
kind-whole up down p q = kind-is _ 0 (sub_ℕ up down) (omega arith) (omega arith) (omega (arith, sub_parts up down))

pub kind-strict-of : (up down : ℕ) → up < half → down < half → kind_of (base + 2 * up - 2 * down - 1) ≡ strict (sub_ℕ up down)
kind-strict-of up down p q = kind-is _ 1 (sub_ℕ up down) (omega arith) (omega arith) (omega (arith, sub_parts up down))

-- the cases of a code, over its gap: the kind's functions compute in each
data View (g : ℕ) : Kind → Type 0 where
  is_none : none ≤ g → View g no_gap
  is-weak : g < none → g % 2 ≡ 0 → View g (weak (whole_of g))
  is-strict : g < none → g % 2 ≡ 1 → View g (strict (whole_of g))

view : (g : ℕ) → View g (kind_of g)
view g =
    there g
    (λ p. ⊎_elim (λ e. rw (kind-weak g p e) (is-weak p e)) (λ e. rw (kind-strict g p e) (is-strict p e)) (parity g))
    (λ p. rw (kind-none g p) (is_none p))

pub kind-sum : (g h : ℕ) → Addable g h → kind_of (sum_of g h) ≡ added (kind_of g) (kind_of h)
unfolding added
kind-sum g h a = go (view g) (view h)
  where
    both : g < none → h < none → kind_of (sum_of g h) ≡ marked (max (g % 2) (h % 2)) (whole_of g +ℤ whole_of h)
    both p q =
        kind-is _ (max (g % 2) (h % 2)) (whole_of g +ℤ whole_of h)
        (omega (arith, sum-finite g h p q, a.high p q))
        (omega arith)
        (omega (
          arith,
          sum-mark g h p q a.low,
          sum-halves g h p q a.low,
          code_is (sum_of g h),
          add_parts (whole_of g) (whole_of h),
          halved g,
          halved h,
        ))

    go : {k l : Kind} → View g k → View h l → kind_of (sum_of g h) ≡ added k l
    go (is_none p) (is_none q) = kind-none _ (omega (arith, sum-none-left g h p))
    go (is_none p) (is-weak q f) = kind-none _ (omega (arith, sum-none-left g h p))
    go (is_none p) (is-strict q f) = kind-none _ (omega (arith, sum-none-left g h p))
    go (is-weak p e) (is_none q) = kind-none _ (omega (arith, sum-none-right g h q))
    go (is-weak p e) (is-weak q f) = rw (e, f) at (both p q)
    go (is-weak p e) (is-strict q f) = rw (e, f) at (both p q)
    go (is-strict p e) (is_none q) = kind-none _ (omega (arith, sum-none-right g h q))
    go (is-strict p e) (is-weak q f) = rw (e, f) at (both p q)
    go (is-strict p e) (is-strict q f) = rw (e, f) at (both p q)

pub same_kind : {r g : ℕ} {k : Kind} → kind_of g ≡ k → r ≡ g → kind_of r ≡ k
same_kind i e = rw e i

-- the kind compares whole numbers where the code compares codes: the halves decide both
by-halves : {m k l : Kind} (g h : ℕ) →
    ((g + 1) / 2 ≤ (h + 1) / 2 → m ≡ k) → ((h + 1) / 2 < (g + 1) / 2 → m ≡ l) → m ≡ cond (at_most (whole_of g) (whole_of h)) k l
by-halves {m} {k} {l} g h i j = go (at_most (whole_of g) (whole_of h)) refl
  where
    go : (t : Bool) → at_most (whole_of g) (whole_of h) ≡ t → m ≡ cond t k l
    go true e = i (omega (arith, leb-true, halved g, halved h))
    go false e = j (omega (arith, leb-false, halved g, halved h))

pub kind-tighter : (g h : ℕ) → kind_of (tighter_of g h) ≡ tighter_kind (kind_of g) (kind_of h)
unfolding tighter_kind
kind-tighter g h = go (view g) (view h) refl refl
  where
    go : {k l : Kind} → View g k → View h l → kind_of g ≡ k → kind_of h ≡ l → kind_of (tighter_of g h) ≡ tighter_kind k l
    go (is_none p) (is_none q) i j = kind-none _ (omega arith)
    go (is_none p) (is-weak q f) i j = same_kind j (omega arith)
    go (is_none p) (is-strict q f) i j = same_kind j (omega arith)
    go (is-weak p e) (is_none q) i j = same_kind i (omega arith)
    go (is-weak p e) (is-weak q f) i j = by-halves g h (λ a. same_kind i (omega arith)) (λ a. same_kind j (omega arith))
    go (is-weak p e) (is-strict q f) i j = by-halves h g (λ a. same_kind j (omega arith)) (λ a. same_kind i (omega arith))
    go (is-strict p e) (is_none q) i j = same_kind i (omega arith)
    go (is-strict p e) (is-weak q f) i j = by-halves g h (λ a. same_kind i (omega arith)) (λ a. same_kind j (omega arith))
    go (is-strict p e) (is-strict q f) i j = by-halves g h (λ a. same_kind i (omega arith)) (λ a. same_kind j (omega arith))

pub kind-says : (D g : ℕ) (x y : ℤ) → Meets D g x y ↔ Says D (kind_of g) x y
kind-says D g x y = go (view g)
  where
    go : {k : Kind} → View g k → Meets D g x y ↔ Says D k x y
    go (is_none p) = (λ m. tt, λ s. meets λ f. absurd (omega arith))
    go (is-weak p e) = (λ m. m.weak p e, λ s. record { weak = λ f i. s; strict = λ f i. absurd (omega arith) })
    go (is-strict p e) = (λ m. m.strict p e, λ s. record { weak = λ f i. absurd (omega arith); strict = λ f i. s })

-- over halves a gap is met just up to its code, so what it says tells the code
kind-le : (g h : ℕ) → g ≤ none → kind_of g ≡ kind_of h → g ≤ h
kind-le g h p e =
    there h
    (λ q.
    let own : Meets 2 g (sub_ℕ g base) (pos 0) = meets λ s. omega (arith, sub_parts g base, code_is g) in
    (meets-two g h q).0 ((kind-says _ _ _ _).1 (rw e at ((kind-says _ _ _ _).0 own))))
    (λ q. omega arith)

pub kind-inj : (g h : ℕ) → g ≤ none → h ≤ none → kind_of g ≡ kind_of h → g ≡ h
kind-inj g h p q e = omega (arith, kind-le g h p e, kind-le h g q (sym e))
