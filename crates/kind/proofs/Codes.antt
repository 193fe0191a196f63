-- The algebra of the codes.
-- Assumes nothing.
use Prim.Native.Nat.{ℕ, ◌+◌, ◌*◌, ◌/◌, ◌%◌, ◌≤◌, ◌<◌, min, max}
use mathlib.Core.Path.{◌≡◌, refl, sym, ◌∙◌}
use mathlib.Core.Bool.{Bool, true, false}
use lib.Dec.{ltb}
use native.Mathlib.Omega.{arith}
use borrow.Author.Tests.{ltb-true, ltb-false, lt-ltb, le-ltb}
use Rattle.kind.specs.Code.{none, half, base, sum_of, sum_finite, Addable, Within}

-- a gap is there or is none
pub there : {A : Type 0} (g : ℕ) → (g < none → A) → (none ≤ g → A) → A
there {A} g yes· no· = go (ltb g none) refl
  where
    go : (t : Bool) → ltb g none ≡ t → A
    go true e = yes· (ltb-true g none e)
    go false e = no· (ltb-false g none e)

pub sum-finite : (g h : ℕ) → g < none → h < none → sum_of g h ≡ sum_finite g h
unfolding sum_of
sum-finite g h p q = simp (lt-ltb g none p, lt-ltb h none q)

-- the forms that `Gap::sum` asks for
pub sum_is : (g h r : ℕ) → g < none → h < none → r ≡ sum_finite g h → r ≡ sum_of g h
sum_is g h r p q e = e ∙ sym (sum-finite g h p q)

pub sum-none-left : (g h : ℕ) → none ≤ g → sum_of g h ≡ none
unfolding sum_of
sum-none-left g h p = simp (le-ltb g none p)

pub sum-none-right : (g h : ℕ) → none ≤ h → sum_of g h ≡ none
unfolding sum_of
sum-none-right g h q = there g (λ p. simp (lt-ltb g none p, le-ltb h none q)) (λ p. sum-none-left g h p)

-- a sum is there only of two that are
pub sum-there : (g h : ℕ) → sum_of g h < none → (g < none) × (h < none)
sum-there g h s = (
  there g (λ p. p) (λ p. absurd (omega (arith, sum-none-left g h p))),
  there h (λ p. p) (λ p. absurd (omega (arith, sum-none-right g h p))),
)

pub sum_comm : (g h : ℕ) → sum_of g h ≡ sum_of h g
sum_comm g h =
    there g
    (λ p. there h (λ q. omega (arith, sum-finite g h p q, sum-finite h g q p)) (λ q. sum-none-right g h q ∙ sym (sum-none-left h g q)))
    (λ p. sum-none-left g h p ∙ sym (sum-none-right h g p))

pub sum-zero : (g : ℕ) → g ≤ none → sum_of g base ≡ g
sum-zero g h = there g (λ p. omega (arith, sum-finite g base p (omega arith))) (λ p. omega (arith, sum-none-left g base p))

-- NONE is at the right too, and 0 at the left
pub zero-sum : (g : ℕ) → g ≤ none → sum_of base g ≡ g
zero-sum g h = sum_comm base g ∙ sum-zero g h

-- the sum of two gaps that are there, with no difference to split on
pub sum-adds : (g h : ℕ) → g < none → h < none → base ≤ g + h → sum_of g h + base ≡ g + h + min (g % 2) (h % 2)
sum-adds g h p q b = omega (arith, sum-finite g h p q)

-- gaps within widths that leave room can be added
pub addable : (v w g h : ℕ) → v + w < half → Within v g → Within w h → Addable g h
addable v w g h f a b = record { low = omega arith; high = λ p q. omega (arith, a.high p, b.high q) }

-- sums stay within the sum of the widths
pub sum-within : (v w g h : ℕ) → v + w < half → Within v g → Within w h → Within (v + w) (sum_of g h)
sum-within v w g h f a b =
    there g
    (λ p.
    there h
    (λ q.
    let i : g ≤ base + 2 * v = a.high p in
    let j : h ≤ base + 2 * w = b.high q in
    let k : base ≤ g + h = omega arith in
    rw (sum-finite g h p q) (record { low = omega arith; high = λ r. omega arith; top = omega arith }))
    (λ q. rw (sum-none-right g h q) (record { low = omega arith; high = λ r. omega arith; top = omega arith })))
    (λ p. rw (sum-none-left g h p) (record { low = omega arith; high = λ r. omega arith; top = omega arith }))

-- the sum keeps the order
pub sum_mono : (v w g g' h : ℕ) → v + w < half → Within v g → Within v g' → Within w h → g ≤ g' → sum_of g h ≤ sum_of g' h
sum_mono v w g g' h f a a' b l =
    let t : Within (v + w) (sum_of g h) = sum-within v w g h f a b in
    there g'
    (λ p.
    there h
    (λ q.
    let r : g < none = omega arith in
    omega (arith, sum-finite g h r q, sum-finite g' h p q))
    (λ q. omega (arith, sum-none-right g' h q)))
    (λ p. omega (arith, sum-none-left g' h p))

-- a code is twice its whole number, less its mark
pub code_is : (g : ℕ) → g + g % 2 ≡ 2 * ((g + 1) / 2)
code_is g = omega arith

-- a sum's whole number is the sum, and it is strict where one of the two is
pub sum-halves : (g h : ℕ) → g < none → h < none → base ≤ g + h → (sum_of g h + 1) / 2 + half ≡ (g + 1) / 2 + (h + 1) / 2
sum-halves g h p q b = rw (sum-finite g h p q) (omega arith)

pub sum-mark : (g h : ℕ) → g < none → h < none → base ≤ g + h → sum_of g h % 2 ≡ max (g % 2) (h % 2)
sum-mark g h p q b = omega (arith, sum-adds g h p q b, sum-halves g h p q b, code_is (sum_of g h), code_is g, code_is h)

pub same_code : (a b : ℕ) → (a + 1) / 2 ≡ (b + 1) / 2 → a % 2 ≡ b % 2 → a ≡ b
same_code a b e f = omega (arith, code_is a, code_is b)

max_assoc : (a b c s t x y : ℕ) → s ≡ max a b → t ≡ max b c → x ≡ max s c → y ≡ max a t → x ≡ y
max_assoc a b c s t x y p q r u = omega arith

pub sum-assoc : (u v w g h k : ℕ) → u + v + w < half → Within u g → Within v h → Within w k → sum_of (sum_of g h) k ≡ sum_of g (sum_of h k)
sum-assoc u v w g h k f a b c =
    there g
    (λ p.
    there h
    (λ q.
    there k
    (λ r.
    let i : g ≤ base + 2 * u = a.high p in
    let j : h ≤ base + 2 * v = b.high q in
    let l : k ≤ base + 2 * w = c.high r in
    let s : Within (u + v) (sum_of g h) = sum-within u v g h (omega arith) a b in
    let t : Within (v + w) (sum_of h k) = sum-within v w h k (omega arith) b c in
    let s-there : sum_of g h < none = omega (arith, sum-finite g h p q) in
    let t-there : sum_of h k < none = omega (arith, sum-finite h k q r) in
    same_code _ _
    (omega (
      arith,
      sum-halves g h p q (omega arith),
      sum-halves h k q r (omega arith),
      sum-halves (sum_of g h) k s-there r (omega arith),
      sum-halves g (sum_of h k) p t-there (omega arith),
    ))
    (max_assoc _ _ _ _ _ _ _
    (sum-mark g h p q (omega arith))
    (sum-mark h k q r (omega arith))
    (sum-mark (sum_of g h) k s-there r (omega arith))
    (sum-mark g (sum_of h k) p t-there (omega arith))))
    (λ r. sum-none-right (sum_of g h) k r ∙ sym (sum-none-right g (sum_of h k) (omega (arith, sum-none-right h k r)))))
    (λ q.
    sum-none-left (sum_of g h) k (omega (arith, sum-none-right g h q)) ∙
    sym (sum-none-right g (sum_of h k) (omega (arith, sum-none-left h k q)))))
    (λ p. sum-none-left (sum_of g h) k (omega (arith, sum-none-left g h p)) ∙ sym (sum-none-left g (sum_of h k) p))
