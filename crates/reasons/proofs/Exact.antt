-- The entries behind the last step are exactly the first list: the entries that the steps use clash, since the same steps are a reason
-- with them, and of the parts of a first list none but itself clashes.
-- Assumes nothing.
use Prim.Native.Nat.{ℕ, zero, suc, ◌≤◌, ◌<◌}
use mathlib.Core.Path.{◌≡◌, refl, sym, ◌∙◌}
use mathlib.Core.Bool.{Bool, true, false, ◌||◌, true≢false, or-true}
use mathlib.Core.Logic.{◌↔◌}
use mathlib.Core.List.Memᴰ.{append_left as in_left}
use mathlib.Core.List.Memᴰ.{append_right as in_right}
use mathlib.Core.List.Memᴰ.{head as here}
use mathlib.Core.List.Memᴰ.{tail as later}
use mathlib.Core.List.{List, [], ◌∷◌, Memᴰ as In}
use lib.Dec.{eqb}
use lib.ListN.{length}
use native.Mathlib.Omega.{arith}
use native.Mathlib.Decide.{ℕ_discrete}
use borrow.Author.Tests.{eqb-true, eq-eqb}
use Rattle.kind.specs.Kind.{Kind}
use Rattle.order.specs.First.{Set, set_of, number, Within, Agree}
use Rattle.order.proofs.Laws.{minimal}
use Rattle.sheet.specs.Sheet.{Sheet, count_entries, WellFormed}
use Rattle.meaning.specs.Meaning.{Clashes, FirstClash}
use Rattle.reasons.specs.Step.{Bound, entry, entry_back, term, term_back, tie, tie_back, Step, by_walks, by_functions, closing_walk, closing_entry, step_at, walks_of}
use Rattle.reasons.specs.Rules.{Usable, Over, Chain, Walk, TieRight, Closing}
use Rattle.reasons.specs.Rules.Over.{an-entry, entry-back, a-number, number-back, a-shift, shift_back, a-tie, tie-back}
use Rattle.reasons.specs.Rules.Chain.{stop, step}
use Rattle.reasons.specs.Rules.TieRight.{by-walks, by-functions}
use Rattle.reasons.specs.Rules.Closing.{by-walk, by-entry}
use Rattle.reasons.specs.Reason.{Gathered, Uses, Behind, Closes, Reason, NothingSpare}
use Rattle.reasons.specs.Reason.Gathered.{own, further}
use Rattle.reasons.specs.Reason.Uses.{forwards, backwards, unequal}
use Rattle.reasons.proofs.Bounds.{Proper, of_entry, of-entry-back, tie-proper, closing-proper, step-proper, rests-earlier}
use Rattle.reasons.proofs.Sound.{closes-clashes}

-- some element passes the test
module _ {A : Type 0} (f : A → Bool) where
  some : List A → Bool
  some [] = false
  some (x ∷ l) = f x || some l

  some-true : {x : A} {l : List A} → In x l → f x ≡ true → some l ≡ true
  unfolding some
  some-true (here e) h = rw (sym e, h)
  some-true (later {x = y} m) h = rw (some-true m h) (or-true (f y))

  record Found (l : List A) : Type 0 where
    it : A
    among : In it l
    passes : f it ≡ true

  found-later : {x : A} {l : List A} → Found l → Found (x ∷ l)
  found-later F = record { it = F.it; among = later F.among; passes = F.passes }

  true-some : (l : List A) → some l ≡ true → Found l
  unfolding some
  true-some [] h = absurd (true≢false (sym h))
  true-some (x ∷ l) h = go (f x) refl h (true-some l)
    where
      go : (t : Bool) → f x ≡ t → t || some l ≡ true → (some l ≡ true → Found l) → Found (x ∷ l)
      go true e h r = record { it = x; among = here refl; passes = e }
      go false e h r = found-later (r h)

-- the number of an element
record Place (steps : List Step) (k : Step) : Type 0 where
  at : ℕ
  there : at < length steps
  is : k ≡ step_at steps at

place : {k : Step} {steps : List Step} → In k steps → Place steps k
place (here e) = record { at = 0; there = omega arith; is = e }
place (later m) = let p = place m in record { at = suc p.at; there = omega (arith, p.there); is = p.is }

in-at : (steps : List Step) (n : ℕ) → n < length steps → In (step_at steps n) steps
in-at [] n l = absurd (omega arith)
in-at (k ∷ steps) zero l = here refl
in-at (k ∷ steps) (suc n) l = later (in-at steps n (omega arith))

-- the entries that steps use, as a set
abbrev goes_over : ℕ → Bound → Bool
goes_over e (entry x) = eqb e x
goes_over e (entry_back x) = eqb e x
goes_over e (term i) = false
goes_over e (term_back i) = false
goes_over e (tie t) = false
goes_over e (tie_back t) = false

abbrev closes_on : ℕ → Step → Bool
closes_on e (by_walks a b c there back) = false
closes_on e (by_functions a b) = false
closes_on e (closing_walk a round) = false
closes_on e (closing_entry x) = eqb e x

abbrev used_by : ℕ → Step → Bool
used_by e k = some (goes_over e) (walks_of k) || closes_on e k

abbrev used : List Step → Set
used steps e = some (used_by e) steps

uses-true : {k : Step} {e : ℕ} → Uses k e → used_by e k ≡ true
uses-true {k} {e} (forwards m) = rw (some-true (goes_over e) m (eq-eqb e e refl))
uses-true {k} {e} (backwards m) = rw (some-true (goes_over e) m (eq-eqb e e refl))
uses-true {e = e} unequal = rw (eq-eqb e e refl) (or-true (some (goes_over e) []))

over-uses : {k : Step} (e : ℕ) (b : Bound) → goes_over e b ≡ true → In b (walks_of k) → Uses k e
over-uses e (entry x) h m = rw (eqb-true e x h) (forwards m)
over-uses e (entry_back x) h m = rw (eqb-true e x h) (backwards m)
over-uses e (term i) h m = absurd (true≢false (sym h))
over-uses e (term_back i) h m = absurd (true≢false (sym h))
over-uses e (tie t) h m = absurd (true≢false (sym h))
over-uses e (tie_back t) h m = absurd (true≢false (sym h))

closes-uses : (e : ℕ) (k : Step) → closes_on e k ≡ true → Uses k e
closes-uses e (by_walks a b c there back) h = absurd (true≢false (sym h))
closes-uses e (by_functions a b) h = absurd (true≢false (sym h))
closes-uses e (closing_walk a round) h = absurd (true≢false (sym h))
closes-uses e (closing_entry x) h = rw (eqb-true e x h) unequal

true-uses : (e : ℕ) (k : Step) → used_by e k ≡ true → Uses k e
true-uses e k h = go (some (goes_over e) (walks_of k)) refl h
  where
    go : (t : Bool) → some (goes_over e) (walks_of k) ≡ t → t || closes_on e k ≡ true → Uses k e
    go true p h = let F = true-some (goes_over e) (walks_of k) p in over-uses e F.it F.passes F.among
    go false p h = closes-uses e k h

-- the rules with another set that has the entries in use
record WalkIn (S : Set) (walk : List Bound) : Type 0 where
  there : (e : ℕ) → In (entry e) walk → S e ≡ true
  back : (e : ℕ) → In (entry_back e) walk → S e ≡ true

module _ {S : Set} {b : Bound} where
  first-in : (rest : List Bound) → WalkIn S (b ∷ rest) → WalkIn S (b ∷ [])
  first-in rest W = record { there = λ e m. W.there e (in_left rest m); back = λ e m. W.back e (in_left rest m) }

  rest_in : {rest : List Bound} → WalkIn S (b ∷ rest) → WalkIn S rest
  rest_in W = record { there = λ e m. W.there e (later m); back = λ e m. W.back e (later m) }

usable-in : {s : Sheet} {S R : Set} {e : ℕ} → R e ≡ true → Usable s S e → Usable s R e
usable-in h u = record { there = u.there; on_list = h }

walk-uses : {R : Set} {k : Step} {p : List Bound} → ((e : ℕ) → Uses k e → R e ≡ true) → ((b : Bound) → In b p → In b (walks_of k)) → WalkIn R p
walk-uses f h = record { there = λ e m. f e (forwards (h _ m)); back = λ e m. f e (backwards (h _ m)) }

module _ {s : Sheet} {S R : Set} {steps : List Step} {n : ℕ} where
  over-in : {b : Bound} {i j : ℕ} {g : Kind} → WalkIn R (b ∷ []) → Over s S steps n b i j g → Over s R steps n b i j g
  over-in W (an-entry {e} u g) = an-entry (usable-in (W.there e (here refl)) u) g
  over-in W (entry-back {e} u r) = entry-back (usable-in (W.back e (here refl)) u) r
  over-in W (a-number l e) = a-number l e
  over-in W (number-back l e) = number-back l e
  over-in W (a-shift l e) = a-shift l e
  over-in W (shift_back l e) = shift_back l e
  over-in W (a-tie l h) = a-tie l h
  over-in W (tie-back l h) = tie-back l h

  chain-in : {walk : List Bound} {i k : ℕ} {total : Kind} → WalkIn R walk → Chain s S steps n walk i k total → Chain s R steps n walk i k total
  chain-in W stop = stop
  chain-in W (step {rest} h w) = step (over-in (first-in rest W) h) (chain-in (rest_in W) w)

  walk-in : {walk : List Bound} {i k : ℕ} {total : Kind} → WalkIn R walk → Walk s S steps n walk i k total → Walk s R steps n walk i k total
  walk-in W w = record { chain = chain-in W w.chain; few = w.few }

  tie-in : {k : Step} → ((e : ℕ) → Uses k e → R e ≡ true) → TieRight s S steps n k → TieRight s R steps n k
  tie-in f (by-walks {there} {back} a b h w p q) =
      by-walks a b h w (walk-in (walk-uses f (λ b m. in_left back m)) p) (walk-in (walk-uses f (λ b m. in_right there m)) q)
  tie-in f (by-functions a b h same) = by-functions a b h same

  closing-in : {k : Step} → ((e : ℕ) → Uses k e → R e ≡ true) → Closing s S steps n k → Closing s R steps n k
  closing-in f (by-walk a w u) = by-walk a (walk-in (walk-uses f (λ b m. m)) w) u
  closing-in f (by-entry {e} u r h) = by-entry (usable-in (f e unequal) u) r h

-- what steps that obey the rules use may be used
entry-usable : {s : Sheet} {S : Set} {n e : ℕ} → Proper s S n (entry e) → Usable s S e
entry-usable (of_entry u) = u

entry-back-usable : {s : Sheet} {S : Set} {n e : ℕ} → Proper s S n (entry_back e) → Usable s S e
entry-back-usable (of-entry-back u) = u

module _ {s : Sheet} {S : Set} {steps : List Step} {n : ℕ} where
  tie-usable : {k : Step} {e : ℕ} → TieRight s S steps n k → Uses k e → Usable s S e
  tie-usable r (forwards m) = entry-usable (tie-proper r m)
  tie-usable r (backwards m) = entry-back-usable (tie-proper r m)
  tie-usable r unequal = elim r [ ]

  closing-usable : {k : Step} {e : ℕ} → Closing s S steps n k → Uses k e → Usable s S e
  closing-usable r (forwards m) = entry-usable (closing-proper r m)
  closing-usable r (backwards m) = entry-back-usable (closing-proper r m)
  closing-usable (by-entry u r h) unequal = u

module _ {s : Sheet} {S : Set} {steps : List Step} {last : ℕ} (C : Closes s S steps last) where
  step-usable : (n e : ℕ) → n ≤ last → Uses (step_at steps n) e → Usable s S e
  step-usable n e l u = go (ℕ_discrete n last)
    where
      go : Dec (n ≡ last) → Usable s S e
      go (yes h) = closing-usable C.closing (rw h at u)
      go (no h) = tie-usable (C.ties n (omega arith)) u

  gathered-upto : {n : ℕ} → Gathered s steps last n → n ≤ last
  gathered-upto own = omega arith
  gathered-upto (further {t} g r) =
      let l = gathered-upto g in
      omega (arith, rests-earlier (step-proper t l (C.ties t) C.closing) r)

  used-true : (n e : ℕ) → n ≤ last → Uses (step_at steps n) e → used steps e ≡ true
  used-true n e l u = some-true (used_by e) (in-at steps n (omega (arith, C.count))) (uses-true u)

  -- the same steps with another set that has the entries in use
  closes_in : {R : Set} → ((n e : ℕ) → n ≤ last → Uses (step_at steps n) e → R e ≡ true) → Closes s R steps last
  closes_in f = record {
    count = C.count;
    ties = λ n l. tie-in (λ e. f n e (omega arith)) (C.ties n l);
    closing = closing-in (λ e. f last e (omega arith)) C.closing;
  }

  closes-used : Closes s (used steps) steps last
  closes-used = closes_in used-true

  -- or that has all that may be used
  pub closes-within : {R : Set} → Within (count_entries s) S R → Closes s R steps last
  closes-within h = closes_in (λ n e l u. let v = step-usable n e l u in h e v.there v.on_list)

  -- an entry in use has a step that uses it
  record User (e : ℕ) : Type 0 where
    at : ℕ
    upto : at ≤ last
    uses : Uses (step_at steps at) e

  user : (e : ℕ) → used steps e ≡ true → User e
  user e h =
      let F = true-some (used_by e) steps h in
      let p = place F.among in
      record { at = p.at; upto = omega (arith, p.there, C.count); uses = true-uses e _ (rw p.is at F.passes) }

  used-within : Within (count_entries s) (used steps) S
  used-within e l h = let w = user e h in (step-usable w.at e w.upto w.uses).on_list

  module _ (W : WellFormed s) (N : NothingSpare s steps last) (F : FirstClash s S) where
    same_set : Agree (count_entries s) S (used steps)
    same_set = minimal (count_entries s) number (Clashes s) S (used steps) F (closes-clashes s (used steps) steps last W closes-used) used-within

    gathered : (n : ℕ) → n ≤ last → Gathered s steps last n
    gathered n l = go (ℕ_discrete n last)
      where
        go : Dec (n ≡ last) → Gathered s steps last n
        go (yes h) = rw h own
        go (no h) = N.needed n (omega arith)

    pub exactly : (e : ℕ) → e < count_entries s → S e ≡ true ↔ Behind s steps last e
    exactly e l = (
      λ h. let w = user e (sym (same_set e l) ∙ h) in record { step = w.at; gathered = gathered w.at w.upto; uses = w.uses },
      λ b. (step-usable b.step e (gathered-upto b.gathered) b.uses).on_list,
    )

abbrev pub reason-for : (s : Sheet) (list : List ℕ) (steps : List Step) (last : ℕ) → WellFormed s → FirstClash s (set_of list) → Closes s (set_of list) steps last
    → NothingSpare s steps last → Reason s list steps
reason-for s list steps last W F C N = record { last = last; closes = C; exactly = exactly C W N F }
