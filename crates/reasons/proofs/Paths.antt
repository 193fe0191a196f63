-- Two points are tied with one gap and along one path only, since a tie joins two different groups. And a walk with a total that isn't
-- strict goes over no strict bound.
-- Assumes nothing.
use Prim.Native.Nat.{ℕ, zero, suc, ◌<◌}
use mathlib.Core.Path.{◌≡◌, refl, sym, ◌∙◌}
use mathlib.Core.List.Memᴰ.{head as here}
use mathlib.Core.List.Memᴰ.{not-nil}
use mathlib.Core.List.Memᴰ.{tail as later}
use mathlib.Core.List.{List, [], Memᴰ as In}
use lib.IntN.{ℤ, pos}
use native.Mathlib.Omega.{arith}
use Rattle.kind.specs.Kind.{Kind, no_gap, weak, strict, added}
use Rattle.order.specs.First.{Set}
use Rattle.sheet.specs.Sheet.{Relation, less, Sheet, entry_at}
use Rattle.reasons.specs.Step.{Bound, entry, Step, step_at}
use Rattle.reasons.specs.Rules.{Ties, Tied, Apart, Gap, Over, Chain, TieRight}
use Rattle.reasons.specs.Rules.Ties.{walks, functions}
use Rattle.reasons.specs.Rules.Tied.{itself, before, forth, back}
use Rattle.reasons.specs.Rules.Gap.{of-equal, of-at-most, of-less}
use Rattle.reasons.specs.Rules.Over.{an-entry}
use Rattle.reasons.specs.Rules.Chain.{stop, step}
use Rattle.reasons.specs.Rules.TieRight.{by-walks, by-functions}

-- a step ties two points with one gap
pub record Same (a b a' b' : ℕ) (c c' : ℤ) : Type 0 where
  pub left : a ≡ a'
  pub right : b ≡ b'
  pub gap : c ≡ c'

pub ties-one : {k : Step} {a b a' b' : ℕ} {c c' : ℤ} → Ties k a b c → Ties k a' b' c' → Same a b a' b' c c'
ties-one walks walks = record { left = refl; right = refl; gap = refl }
ties-one functions functions = record { left = refl; right = refl; gap = refl }

-- i and j are in one group, whatever the gap and the path
pub record Grouped (steps : List Step) (n i j : ℕ) : Type 0 where
  pub gap : ℤ
  pub path : List ℕ
  pub tied : Tied steps n i j gap path

module _ {steps : List Step} where
  abbrev pub group : {n i j : ℕ} {c : ℤ} {p : List ℕ} → Tied steps n i j c p → Grouped steps n i j
  group {c = c} {p} h = record { gap = c; path = p; tied = h }

  pub turned : {n i j : ℕ} {c : ℤ} {p : List ℕ} → Tied steps n i j c p → Grouped steps n j i
  turned itself = group itself
  turned (before h) = group (before (turned h).tied)
  turned (forth h t k) = group (back (turned k).tied t (turned h).tied)
  turned (back h t k) = group (forth (turned k).tied t (turned h).tied)

  -- groups with a point in common are one; the last step's tie is gone over once at most
  pub on : {n i j k : ℕ} {c d : ℤ} {p q : List ℕ} → Tied steps n i j c p → Tied steps n j k d q → Grouped steps n i k
  on itself g = group g
  on (before h) (before g) = group (before (on h g).tied)
  on (before h) (forth g t f) = group (forth (on h g).tied t f)
  on (before h) (back g t f) = group (back (on h g).tied t f)
  on (forth h t k) (before g) = group (forth h t (on k g).tied)
  on (forth h t k) (forth g u f) = group (forth h t (rw (sym (ties-one t u).right) at f))
  on (forth h t k) (back g u f) = group (before (on h (rw (sym (ties-one t u).left) at f)).tied)
  on (back h t k) (before g) = group (back h t (on k g).tied)
  on (back h t k) (forth g u f) = group (before (on h (rw (sym (ties-one t u).right) at f)).tied)
  on (back h t k) (back g u f) = group (back h t (rw (sym (ties-one t u).left) at f))

  none : {i j : ℕ} {c : ℤ} {p : List ℕ} → Tied steps 0 i j c p → (c ≡ pos 0) × (p ≡ [])
  none itself = (refl, refl)

ties-apart : {s : Sheet} {S : Set} {steps : List Step} {n a b : ℕ} {c : ℤ} {k : Step} → TieRight s S steps n k → Ties k a b c → Apart steps n a b
ties-apart (by-walks a b h l p q) walks = h
ties-apart (by-functions a b h same) functions = h

-- step n ties points of different groups, if any
pub record JoinsTwo (steps : List Step) (n : ℕ) : Type 0 where
  pub apart : (a b : ℕ) (c : ℤ) → Ties (step_at steps n) a b c → Apart steps n a b

pub right-joins : {s : Sheet} {S : Set} {steps : List Step} {n : ℕ} → TieRight s S steps n (step_at steps n) → JoinsTwo steps n
right-joins r = record { apart = λ a b c t. ties-apart r t }

-- so no point is in the groups of both ends of a tie before it, and no path beside the one over it has the same ends
module _ {steps : List Step} {n a b : ℕ} {d : ℤ} (r : JoinsTwo steps n) (t : Ties (step_at steps n) a b d) where
  both_ends : {i : ℕ} {c e : ℤ} {p q : List ℕ} → Tied steps n i a c p → Tied steps n i b e q → ⊥
  both_ends h k = let g = on (turned h).tied k in r.apart a b d t g.gap g.path g.tied

  beside-forth : {i j : ℕ} {c e f : ℤ} {p q o : List ℕ} → Tied steps n i a c p → Tied steps n b j e q → Tied steps n i j f o → ⊥
  beside-forth h k g = both_ends h (on g (turned k).tied).tied

  beside_back : {i j : ℕ} {c e f : ℤ} {p q o : List ℕ} → Tied steps n i b c p → Tied steps n a j e q → Tied steps n i j f o → ⊥
  beside_back h k g = both_ends (on g (turned k).tied).tied h

module _ (steps : List Step) where
  pub one-path : (n : ℕ) {i j : ℕ} {c c' : ℤ} {p p' : List ℕ} → ((t : ℕ) → t < n → JoinsTwo steps t) →
      Tied steps n i j c p → Tied steps n i j c' p' → (c ≡ c') × (p ≡ p')
  one-path zero r h g = let (a, b) = none h in let (d, e) = none g in (a ∙ sym d, b ∙ sym e)
  one-path (suc n) r (before h) (before g) = one-path n (λ t l. r t (omega arith)) h g
  one-path (suc n) r (before h) (forth g u f) = absurd (beside-forth (r n (omega arith)) u g f h)
  one-path (suc n) r (before h) (back g u f) = absurd (beside_back (r n (omega arith)) u g f h)
  one-path (suc n) r (forth h t k) (before g) = absurd (beside-forth (r n (omega arith)) t h k g)
  one-path (suc n) r (forth h t k) (forth g u f) =
      let S = ties-one t u in
      let (a, b) = one-path n (λ t l. r t (omega arith)) h (rw (sym S.left) at g) in
      let (d, e) = one-path n (λ t l. r t (omega arith)) k (rw (sym S.right) at f) in
      (cc S.gap, cc)
  one-path (suc n) r (forth h t k) (back g u f) = absurd (both_ends (r n (omega arith)) t h (rw (sym (ties-one t u).right) at g))
  one-path (suc n) r (back h t k) (before g) = absurd (beside_back (r n (omega arith)) t h k g)
  one-path (suc n) r (back h t k) (forth g u f) = absurd (both_ends (r n (omega arith)) t (rw (sym (ties-one t u).left) at g) h)
  one-path (suc n) r (back h t k) (back g u f) =
      let S = ties-one t u in
      let (a, b) = one-path n (λ t l. r t (omega arith)) h (rw (sym S.right) at g) in
      let (d, e) = one-path n (λ t l. r t (omega arith)) k (rw (sym S.left) at f) in
      (cc S.gap, cc)

-- a gap that is there and isn't strict
abbrev Plain : Kind → Type 0
Plain no_gap = ⊥
Plain (weak c) = Unit
Plain (strict c) = ⊥

-- a sum that isn't strict is of two gaps that aren't
plain-added : (g h : Kind) → Plain (added g h) → Plain g × Plain h
unfolding added
plain-added no_gap no_gap p = absurd p
plain-added no_gap (weak d) p = absurd p
plain-added no_gap (strict d) p = absurd p
plain-added (weak c) no_gap p = absurd p
plain-added (weak c) (weak d) p = (tt, tt)
plain-added (weak c) (strict d) p = absurd p
plain-added (strict c) no_gap p = absurd p
plain-added (strict c) (weak d) p = absurd p
plain-added (strict c) (strict d) p = absurd p

-- only < entries are strict bounds
gap-less : {r : Relation} {c : ℤ} {g : Kind} → Gap r c g → r ≡ less → Plain g → ⊥
gap-less of-equal e p = let z : ◌≡◌ {A = ℕ} 0 1 = cc in omega arith
gap-less of-at-most e p = let z : ◌≡◌ {A = ℕ} 0 1 = cc in omega arith
gap-less of-less e p = p

gap-strict : {r : Relation} {c d : ℤ} → Gap r c (strict d) → r ≡ less
gap-strict of-less = refl

module _ {s : Sheet} {listed : Set} {steps : List Step} {n : ℕ} where
  over-less : {e i j : ℕ} {g : Kind} → Over s listed steps n (entry e) i j g → (entry_at s e).relation ≡ less → Plain g → ⊥
  over-less (an-entry u g) h p = gap-less g h p

  chain-less : {walk : List Bound} {i k e : ℕ} {total : Kind} → Chain s listed steps n walk i k total → Plain total → In (entry e) walk →
      (entry_at s e).relation ≡ less → ⊥
  chain-less stop p m h = not-nil m
  chain-less (step {g} {t} o w) p (here e) h = over-less (rw (sym e) at o) h (plain-added g t p).0
  chain-less (step {g} {t} o w) p (later m) h = chain-less w (plain-added g t p).1 m h

  -- a walk whose total isn't strict goes over no < entry
  pub no_less : {walk : List Bound} {i k e : ℕ} {c : ℤ} → Chain s listed steps n walk i k (weak c) → In (entry e) walk →
      (entry_at s e).relation ≡ less → ⊥
  no_less w m h = chain-less w tt m h

  -- so over no bound that is strict
  pub no_strict : {walk : List Bound} {b : Bound} {i k x y : ℕ} {c d : ℤ} → Chain s listed steps n walk i k (weak c) → In b walk →
      Over s listed steps n b x y (strict d) → ⊥
  no_strict w m (an-entry u g) = no_less w m (gap-strict g)
