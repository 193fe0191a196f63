-- The laws of `Tight` and `added`, and that the order of the codes is the order of their gaps.
-- Assumes nothing.
use Prim.Native.Nat.{ℕ, ◌+◌, ◌*◌, ◌/◌, ◌%◌, ◌≤◌, ◌<◌, max}
use mathlib.Core.Path.{◌≡◌, refl, sym, ◌∙◌, ap, subst}
use mathlib.Core.Logic.{◌↔◌, ⊎_elim}
use lib.IntN.{ℤ, pos, ◌+ℤ◌}
use native.Mathlib.Omega.{arith}
use Rattle.whole.specs.Whole.{plus, minus}
use Rattle.whole.proofs.Parts.{add_parts, parts-inj, sub_parts}
use Rattle.kind.specs.Code.{none, base, half}
use Rattle.kind.specs.Meets.{whole_of}
use Rattle.kind.specs.Kind.{Kind, no_gap, weak, strict, zero_gap, added, kind_of}
use Rattle.kind.proofs.Codes.{there, code_is}
use Rattle.kind.proofs.Flat.{parity}
use Rattle.kind.proofs.Kind.{kind-none, kind-weak, kind-strict}
use Rattle.closure.specs.Walk.{Tight}

-- a gap that is there, by its mark and its number: what holds of weak and strict ones is then said once
pub data Is : Kind → ℕ → ℤ → Type 0 where
  plain : {c : ℤ} → Is (weak c) 0 c
  under : {c : ℤ} → Is (strict c) 1 c

pub data Seen : Kind → Type 0 where
  missing : Seen no_gap
  present : {k : Kind} {m : ℕ} {c : ℤ} → Is k m c → Seen k

pub seen : (k : Kind) → Seen k
seen no_gap = missing
seen (weak c) = present plain
seen (strict c) = present under

pub mark : {k : Kind} {m : ℕ} {c : ℤ} → Is k m c → m ≤ 1
mark plain = omega arith
mark under = omega arith

-- the order as one inequality
pub line : {x y : Kind} {m n : ℕ} {c d : ℤ} → Is x m c → Is y n d → Tight x y ↔ 2 * (plus c + minus d) + n ≤ 2 * (plus d + minus c) + m
unfolding Tight
line plain plain = (λ h. omega arith, λ h. omega arith)
line plain under = (λ h. omega arith, λ h. omega arith)
line under plain = (λ h. omega arith, λ h. omega arith)
line under under = (λ h. omega arith, λ h. omega arith)

pub both : {x y : Kind} {m n : ℕ} {c d : ℤ} → Is x m c → Is y n d → Is (added x y) (max m n) (c +ℤ d)
unfolding added
both plain plain = plain
both plain under = under
both under plain = under
both under under = under

same : {x y : Kind} {m n : ℕ} {c d : ℤ} → Is x m c → Is y n d → m ≡ n → plus c + minus d ≡ plus d + minus c → x ≡ y
same plain plain e f = ap weak (parts-inj _ _ f)
same plain under e f = absurd (omega arith)
same under plain e f = absurd (omega arith)
same under under e f = ap strict (parts-inj _ _ f)

pub none-tight : {k : Kind} {m : ℕ} {c : ℤ} → Is k m c → Tight no_gap k → ⊥
unfolding Tight
none-tight plain h = h
none-tight under h = h

to_none : (k : Kind) → Tight k no_gap
unfolding Tight
to_none no_gap = tt
to_none (weak c) = tt
to_none (strict c) = tt

none-added : (k : Kind) → added no_gap k ≡ no_gap
unfolding added
none-added no_gap = refl
none-added (weak c) = refl
none-added (strict c) = refl

added_none : (k : Kind) → added k no_gap ≡ no_gap
unfolding added
added_none no_gap = refl
added_none (weak c) = refl
added_none (strict c) = refl

pub tight-refl : (k : Kind) → Tight k k
tight-refl no_gap = to_none no_gap
tight-refl (weak c) = (line plain plain).1 (omega arith)
tight-refl (strict c) = (line under under).1 (omega arith)

pub tight-trans : (x y z : Kind) → Tight x y → Tight y z → Tight x z
tight-trans x y z = go (seen x) (seen y) (seen z)
  where
    go : {x y z : Kind} → Seen x → Seen y → Seen z → Tight x y → Tight y z → Tight x z
    go {x} u v missing p q = to_none x
    go u missing (present k) p q = absurd (none-tight k q)
    go missing (present j) (present k) p q = absurd (none-tight j p)
    go (present i) (present j) (present k) p q = (line i k).1 (omega (arith, (line i j).0 p, (line j k).0 q))

pub tight-antisym : (x y : Kind) → Tight x y → Tight y x → x ≡ y
tight-antisym x y = go (seen x) (seen y)
  where
    go : {x y : Kind} → Seen x → Seen y → Tight x y → Tight y x → x ≡ y
    go missing missing p q = refl
    go missing (present j) p q = absurd (none-tight j p)
    go (present i) missing p q = absurd (none-tight i q)
    go (present i) (present j) p q =
        let u = (line i j).0 p in
        let v = (line j i).0 q in
        same i j (omega (arith, mark i, mark j)) (omega (arith, mark i, mark j))

pub tight-same : (x : Kind) {y z : Kind} → Tight x y → y ≡ z → Tight x z
tight-same x h e = subst (Tight x) e h

pub added-comm : (x y : Kind) → added x y ≡ added y x
added-comm x y = go (seen x) (seen y)
  where
    go : {x y : Kind} → Seen x → Seen y → added x y ≡ added y x
    go {y = y} missing v = none-added y ∙ sym (added_none y)
    go {x} (present i) missing = added_none x ∙ sym (none-added x)
    go (present {c = c} i) (present {c = d} j) = same (both i j) (both j i) (omega arith) (omega (arith, add_parts c d, add_parts d c))

pub added-unit : (k : Kind) → added zero_gap k ≡ k
added-unit no_gap = added_none zero_gap
added-unit (weak c) = same (both plain plain) plain (omega arith) (omega (arith, add_parts (pos 0) c))
added-unit (strict c) = same (both plain under) under (omega arith) (omega (arith, add_parts (pos 0) c))

pub added-assoc : (x y z : Kind) → added (added x y) z ≡ added x (added y z)
added-assoc x y z = go (seen x) (seen y) (seen z)
  where
    go : {x y z : Kind} → Seen x → Seen y → Seen z → added (added x y) z ≡ added x (added y z)
    go missing v w = simp none-added
    go (present i) missing w = simp (none-added, added_none)
    go (present i) (present j) missing = simp added_none
    go (present {c = c} i) (present {c = d} j) (present {c = e} k) =
        same (both (both i j) k) (both i (both j k)) (omega arith)
        (omega (arith, add_parts c d, add_parts d e, add_parts (c +ℤ d) e, add_parts c (d +ℤ e)))

mono_left : (x y z : Kind) → Tight x y → Tight (added x z) (added y z)
mono_left x y z = go (seen x) (seen y) (seen z)
  where
    go : {x y z : Kind} → Seen x → Seen y → Seen z → Tight x y → Tight (added x z) (added y z)
    go u v missing p = simp added_none (to_none no_gap)
    go {x} {z = z} u missing (present k) p = rw none-added (to_none (added x z))
    go missing (present j) (present k) p = absurd (none-tight j p)
    go (present {c = c} i) (present {c = d} j) (present {c = e} k) p =
        (line (both i k) (both j k)).1 (omega (arith, (line i j).0 p, mark i, mark j, mark k, add_parts c e, add_parts d e))

pub added-mono : (x y z w : Kind) → Tight x y → Tight z w → Tight (added x z) (added y w)
added-mono x y z w p q =
    tight-trans (added x z) (added y z) (added y w) (mono_left x y z p) (rw (added-comm y z, added-comm y w) (mono_left z w y q))

-- a sum with what isn't under zero is no tighter, and one with what isn't above zero no looser
pub grow : (x y : Kind) → Tight zero_gap x → Tight y (added x y)
grow x y h = rw added-unit at (added-mono zero_gap x y y h (tight-refl y))

pub shrink : (x y : Kind) → Tight x zero_gap → Tight (added x y) y
shrink x y h = rw added-unit at (added-mono x zero_gap y y h (tight-refl y))

-- a code's mark and number, and the code again from them
pub of_code : (g : ℕ) → g < none → Is (kind_of g) (g % 2) (whole_of g)
of_code g p = ⊎_elim (λ e. rw (kind-weak g p e, e) plain) (λ e. rw (kind-strict g p e, e) under) (parity g)

pub halved : (g : ℕ) → 2 * plus (whole_of g) + base ≡ g + g % 2 + 2 * minus (whole_of g)
halved g = omega (arith, code_is g, sub_parts ((g + 1) / 2) half)

pub tight-code : (x y : ℕ) → x ≤ y → Tight (kind_of x) (kind_of y)
tight-code x y l =
    there y
    (λ q.
    let p : x < none = omega arith in
    (line (of_code x p) (of_code y q)).1 (omega (arith, halved x, halved y)))
    (λ q. rw (kind-none y q) (to_none (kind_of x)))

pub code-tight : (x y : ℕ) → x ≤ none → Tight (kind_of x) (kind_of y) → x ≤ y
code-tight x y l h =
    there y
    (λ q.
    there x
    (λ p. omega (arith, (line (of_code x p) (of_code y q)).0 h, halved x, halved y))
    (λ p. absurd (none-tight (of_code y q) (rw (kind-none x p) at h))))
    (λ q. omega arith)
