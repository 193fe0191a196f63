-- One bound: step n may go over it just where a stand goes further by its leg, and the gap is one.
-- Assumes nothing.
use Prim.Native.Nat.{ℕ, zero, suc, ◌+◌, ◌*◌, ◌/◌, ◌%◌, ◌≤◌, ◌<◌}
use mathlib.Core.Path.{◌≡◌, refl, sym, ◌∙◌, subst}
use mathlib.Core.Bool.{Bool, true, false}
use mathlib.Core.Logic.{◌⊎◌, inl, inr}
use mathlib.Core.List.{List}
use lib.Dec.{eqb}
use lib.ListN.{get_or}
use lib.IntN.{ℤ, neg_ℤ}
use native.Mathlib.Omega.{arith}
use Rattle.whole.proofs.Order.{order}
use Rattle.kind.specs.Kind.{Kind, weak}
use Rattle.order.specs.First.{Set}
use Rattle.sheet.specs.Sheet.{Term, unknown, number, shift, apply, apply2, Relation, equal, unequal, at_most, less, Sheet, count_terms, count_entries, term_at, entry_at, WellFormed}
use Rattle.sheet.proofs.Below.{shifted}
use Rattle.reasons.specs.Step.{Bound, entry, entry_back, term, term_back, tie, tie_back, Step, step_at}
use Rattle.reasons.specs.Rules.{Ties, TieWithin, Usable, Gap, of-equal, of-at-most, of-less, Over}
use Rattle.reasons.specs.Rules.Ties.{walks, functions}
use Rattle.reasons.specs.Rules.Over.{an-entry, entry-back, a-number, number-back, a-shift, shift_back, a-tie, tie-back}
use Rattle.stated.specs.Said.{bound_kinds, bound_of}
use Rattle.legs.specs.Legs.{gap_for, word_of, forwards, strictly, either_way, relation_leg, term_place, tie_place, leg_at, Further}
use Rattle.legs.specs.Legs.Further.{forth, back}
use Rattle.legs.specs.declared.Stand.{Stand}
use Rattle.legs.proofs.Walks.{further-one}
use Rattle.strides.specs.Trodden.{Small, SmallSheet, Trodden, kind_for}
use Rattle.strides.proofs.Stride.{Adds, Word, word, Passes, ahead, behind, Paced, passes-paced}

-- where a bound's leg stands, which way it goes, and its number
abbrev place_of : Bound → ℕ
place_of (entry e) = e
place_of (entry_back e) = e
place_of (term i) = term_place + i
place_of (term_back i) = term_place + i
place_of (tie t) = tie_place + t
place_of (tie_back t) = tie_place + t

abbrev turned_of : Bound → ℕ
turned_of (entry e) = 0
turned_of (entry_back e) = 1
turned_of (term i) = 0
turned_of (term_back i) = 1
turned_of (tie t) = 0
turned_of (tie_back t) = 1

abbrev number_of : Bound → ℕ
number_of (entry e) = e
number_of (entry_back e) = e
number_of (term i) = i
number_of (term_back i) = i
number_of (tie t) = t
number_of (tie_back t) = t

record Placed (w : ℕ) (b : Bound) : Type 0 where
  place : place_of b ≡ w / 512 * 256 + w % 256
  turned : turned_of b ≡ w / 256 % 2
  few : number_of b < 256

placed : (w : ℕ) → w < 6 * 256 → Placed w (bound_of w)
unfolding bound_of
placed w l = go (w / 256) refl
  where
    go : (k : ℕ) → w / 256 ≡ k → Placed w (get_or (bound_kinds (w % 256)) k (entry 0))
    go zero e = omega arith
    go (suc zero) e = omega arith
    go (suc (suc zero)) e = omega arith
    go (suc (suc (suc zero))) e = omega arith
    go (suc (suc (suc (suc zero)))) e = omega arith
    go (suc (suc (suc (suc (suc zero))))) e = omega arith
    go (suc (suc (suc (suc (suc (suc k)))))) e = absurd (omega arith)

ties-one : {k : Step} {a b a' b' : ℕ} {c c' : ℤ} → Ties k a b c → Ties k a' b' c' → (a ≡ a') × (b ≡ b') × (c ≡ c')
ties-one walks walks = (refl, refl, refl)
ties-one functions functions = (refl, refl, refl)

wide : (c : ℤ) → Small c → TieWithin c
wide c h = omega arith

gap-passes : {leg a b : ℕ} {r : Relation} {c : ℤ} {g : Kind} → ((way : ℕ) → leg ≡ word_of way (gap_for c) a b → Word leg way c a b) →
    leg ≡ relation_leg r a b c → Gap r c g → Passes leg 0 a b g
gap-passes f is of-equal = ahead (f either_way is) (omega arith)
gap-passes f is of-at-most = ahead (f forwards is) (omega arith)
gap-passes f is of-less = ahead (f strictly is) (omega arith)

module _ (s : Sheet) (listed : Set) (steps : List Step) (n : ℕ) where
  -- what a leg is good for: nothing, or for the bounds of two kinds
  data Means (leg : ℕ) (there back : Bound) : Type 0 where
    none : leg ≡ 0 → Means leg there back
    some : {way from to : ℕ} {c : ℤ} → Word leg way c from to → 0 < way → Over s listed steps n there from to (kind_for (eqb way strictly) c) →
        (way ≡ either_way → Over s listed steps n back to from (weak (neg_ℤ c))) → Means leg there back

  -- the bound may be gone over from i, and its leg passes so
  record Free (leg turned : ℕ) (b : Bound) (i : ℕ) : Type 0 where
    to : ℕ
    gap : Kind
    over : Over s listed steps n b i to gap
    passes : Passes leg turned i to gap

  free-forth : {leg : ℕ} {there behind : Bound} {x y : Stand} → Means leg there behind → Further leg 0 x y → Free leg 0 there x.at
  free-forth (none e) (forth w f) = absurd (omega arith)
  free-forth {leg} {there} (some {way} {from} {to} {c} W p o q) (forth w f) =
      subst (Free leg 0 there) (sym W.from_is ∙ f) (record { to = to; gap = _; over = o; passes = ahead W p })

  free_back : {leg : ℕ} {there behind : Bound} {x y : Stand} → Means leg there behind → Further leg 1 x y → Free leg 1 behind x.at
  free_back (none e) (back w f) = absurd (omega arith)
  free_back {leg} {behind = b} (some {way} {from} {to} {c} W p o q) (back w f) =
      let v : way ≡ either_way = sym W.way-is ∙ w in
      let W' : Word leg either_way c from to = subst (λ (k : ℕ). Word leg k c from to) v W in
      subst (Free leg 1 b) (sym W.to_is ∙ f) (record { to = from; gap = _; over = q v; passes = behind W' })

  -- so it may be gone over with what is added
  pub record Overs (b : Bound) (x y : Stand) : Type 0 where
    pub gap : Kind
    pub over : Over s listed steps n b x.at y.at gap
    pub adds : Adds x y gap 1

  free-overs : {leg turned : ℕ} {b : Bound} {x y : Stand} → Free leg turned b x.at → Further leg turned x y → Overs b x y
  free-overs {b = b} {x} F f =
      let P = passes-paced x F.passes in
      subst (Overs b x) (further-one P.further f) (record { gap = F.gap; over = rw P.at-is F.over; adds = P.adds })

module _ {s : Sheet} {listed : Set} {steps : List Step} {n : ℕ} {legs : List ℕ}
    (wf : WellFormed s) (small : SmallSheet s) (T : Trodden s listed steps n legs)
  where
    abbrev leg : Bound → ℕ
    leg b = get_or legs (place_of b) 0

    -- the legs, by what they are of
    module _ {e : ℕ} (u : Usable s listed e) where
      entry-is : leg (entry e) ≡ relation_leg (entry_at s e).relation (entry_at s e).a (entry_at s e).b (entry_at s e).c
      entry-is = T.entries e u.there ∙ rw u.on_list

      entry-word : (way : ℕ) → leg (entry e) ≡ word_of way (gap_for (entry_at s e).c) (entry_at s e).a (entry_at s e).b →
          Word (leg (entry e)) way (entry_at s e).c (entry_at s e).a (entry_at s e).b
      entry-word way is =
          word is (omega (arith, wf.left e u.there, wf.terms)) (omega (arith, wf.right e u.there, wf.terms))
          (wide (entry_at s e).c (small.entries e))

      entry-over : {r : Relation} {g : Kind} → (entry_at s e).relation ≡ r → Gap r (entry_at s e).c g →
          Over s listed steps n (entry e) (entry_at s e).a (entry_at s e).b g
      entry-over {g} is h = an-entry {g = g} u (rw is h)

    number_word : {i : ℕ} {c : ℤ} → i < count_terms s → term_at s i ≡ number c → Word (leg (term i)) either_way c i (count_terms s)
    number_word {i} {c} i< is =
        word (T.terms i i< ∙ rw is) (omega (arith, wf.terms)) (omega (arith, wf.terms)) (wide c (small.numbers i c is))

    shift_word : {i a : ℕ} {c : ℤ} → i < count_terms s → term_at s i ≡ shift a c → Word (leg (term i)) either_way c i a
    shift_word {i} {a} {c} i< is =
        word (T.terms i i< ∙ rw is) (omega (arith, wf.terms))
        (omega (arith, wf.terms, shifted (rw is at (wf.arguments i i<)))) (wide c (small.shifts i a c is))

    tie-word : {t a b : ℕ} {c : ℤ} → t < n → Ties (step_at steps t) a b c → Word (leg (tie t)) either_way c a b
    tie-word {t} t< h =
        let L = T.ties t (omega arith) in
        let same = ties-one h L.ties in
        rw (same.0, same.1, same.2) (word L.leg L.left L.right L.within)

    over-passes : {b : Bound} {i j : ℕ} {g : Kind} → Over s listed steps n b i j g → Passes (leg b) (turned_of b) i j g
    over-passes (an-entry u g) = gap-passes (entry-word u) (entry-is u) g
    over-passes (entry-back u r) = behind (entry-word u either_way (entry-is u ∙ rw r))
    over-passes (a-number l is) = ahead (number_word l is) (omega arith)
    over-passes (number-back l is) = behind (number_word l is)
    over-passes (a-shift l is) = ahead (shift_word l is) (omega arith)
    over-passes (shift_back l is) = behind (shift_word l is)
    over-passes (a-tie l h) = ahead (tie-word l h) (omega arith)
    over-passes (tie-back l h) = behind (tie-word l h)

    -- and the other way round
    abbrev Good : ℕ → Bound → Bound → Type 0
    Good = Means s listed steps n

    entry-good : (e : ℕ) → e < 256 → Good (leg (entry e)) (entry e) (entry_back e)
    entry-good e l = go (order (count_entries s) e)
      where
        related : Usable s listed e → (r : Relation) → (entry_at s e).relation ≡ r → Good (leg (entry e)) (entry e) (entry_back e)
        related u equal i = some (entry-word u either_way (entry-is u ∙ rw i)) (omega arith) (entry-over u i of-equal) (λ _. entry-back u i)
        related u unequal i = none (entry-is u ∙ rw i)
        related u at_most i = some (entry-word u forwards (entry-is u ∙ rw i)) (omega arith) (entry-over u i of-at-most) (λ h. absurd (omega arith))
        related u less i = some (entry-word u strictly (entry-is u ∙ rw i)) (omega arith) (entry-over u i of-less) (λ h. absurd (omega arith))

        there : e < count_entries s → (t : Bool) → listed e ≡ t → Good (leg (entry e)) (entry e) (entry_back e)
        there e< true on = related (record { there = e<; on_list = on }) (entry_at s e).relation refl
        there e< false on = none (T.entries e e< ∙ rw on)

        go : (count_entries s ≤ e) ⊎ (e < count_entries s) → Good (leg (entry e)) (entry e) (entry_back e)
        go (inl p) = none (T.no-entry e p l)
        go (inr p) = there p (listed e) refl

    term-good : (i : ℕ) → i < 256 → Good (leg (term i)) (term i) (term_back i)
    term-good i l = go (order (count_terms s) i)
      where
        of : i < count_terms s → (t : Term) → term_at s i ≡ t → Good (leg (term i)) (term i) (term_back i)
        of i< unknown is = none (T.terms i i< ∙ rw is)
        of i< (number c) is = some (number_word i< is) (omega arith) (a-number i< is) (λ _. number-back i< is)
        of i< (shift a c) is = some (shift_word i< is) (omega arith) (a-shift i< is) (λ _. shift_back i< is)
        of i< (apply symbol a) is = none (T.terms i i< ∙ rw is)
        of i< (apply2 symbol a b) is = none (T.terms i i< ∙ rw is)

        go : (count_terms s ≤ i) ⊎ (i < count_terms s) → Good (leg (term i)) (term i) (term_back i)
        go (inl p) = none (T.no-term i p l)
        go (inr p) = of p (term_at s i) refl

    tie-good : (t : ℕ) → t < 256 → Good (leg (tie t)) (tie t) (tie_back t)
    tie-good t l = go (order n t)
      where
        go : (n ≤ t) ⊎ (t < n) → Good (leg (tie t)) (tie t) (tie_back t)
        go (inl p) = none (T.no_tie t p l)
        go (inr p) = let h = (T.ties t (omega arith)).ties in some (tie-word p h) (omega arith) (a-tie p h) (λ _. tie-back p h)

    further-free : (b : Bound) {x y : Stand} → number_of b < 256 → Further (leg b) (turned_of b) x y →
        Free s listed steps n (leg b) (turned_of b) b x.at
    further-free (entry e) l f = free-forth s listed steps n (entry-good e l) f
    further-free (entry_back e) l f = free_back s listed steps n (entry-good e l) f
    further-free (term i) l f = free-forth s listed steps n (term-good i l) f
    further-free (term_back i) l f = free_back s listed steps n (term-good i l) f
    further-free (tie t) l f = free-forth s listed steps n (tie-good t l) f
    further-free (tie_back t) l f = free_back s listed steps n (tie-good t l) f

    -- so a bound by its number
    pub over-paced : {w j : ℕ} {g : Kind} (x : Stand) → w < 6 * 256 → Over s listed steps n (bound_of w) x.at j g →
        Paced (leg_at legs w) (w / 256 % 2) x j g
    over-paced {w} x l o = let P = placed w l in rw (sym P.place, sym P.turned) (passes-paced x (over-passes o))

    pub further-over : {w : ℕ} {x y : Stand} → w < 6 * 256 → Further (leg_at legs w) (w / 256 % 2) x y → Overs s listed steps n (bound_of w) x y
    further-over {w} {x} {y} l f =
        let P = placed w l in
        let f' : Further (leg (bound_of w)) (turned_of (bound_of w)) x y = rw (P.place, P.turned) f in
        free-overs s listed steps n (further-free (bound_of w) P.few f') f'
