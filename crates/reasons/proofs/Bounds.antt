-- What a step that obeys the rules goes over and rests on: entries that may be used, and earlier ties. So what the last step rests on stands
-- before it.
-- Assumes nothing.
use Prim.Native.Nat.{ℕ, suc, ◌≤◌, ◌<◌}
use mathlib.Core.Path.{◌≡◌}
use mathlib.Core.Logic.{⊎_elim}
use mathlib.Core.List.Memᴰ.{append_cases as either}
use mathlib.Core.List.Memᴰ.{cases_cons as this-or-later}
use mathlib.Core.List.Memᴰ.{head as here}
use mathlib.Core.List.Memᴰ.{not-nil}
use mathlib.Core.List.Memᴰ.{tail as later}
use mathlib.Core.List.{List, ◌∷◌, ◌++◌, Memᴰ as In}
use lib.IntN.{ℤ}
use native.Mathlib.Omega.{arith}
use native.Mathlib.Decide.{ℕ_discrete}
use Rattle.kind.specs.Kind.{Kind}
use Rattle.order.specs.First.{Set}
use Rattle.sheet.specs.Sheet.{Term, Sheet}
use Rattle.reasons.specs.Step.{Bound, entry, entry_back, term, term_back, tie, tie_back, Step, step_at, walks_of}
use Rattle.reasons.specs.Rules.{Tied, Usable, Over, Chain, TieRight, Closing}
use Rattle.reasons.specs.Rules.Tied.{itself, before, forth, back}
use Rattle.reasons.specs.Rules.Over.{an-entry, entry-back, a-number, number-back, a-shift, shift_back, a-tie, tie-back}
use Rattle.reasons.specs.Rules.Chain.{stop, step}
use Rattle.reasons.specs.Rules.TieRight.{by-walks, by-functions}
use Rattle.reasons.specs.Rules.Closing.{by-walk, by-entry}
use Rattle.reasons.specs.Reason.{Between, Rests}
use Rattle.reasons.specs.Reason.Between.{one, first, second}
use Rattle.reasons.specs.Reason.Rests.{over, over-back, arguments, terms}

-- a bound that step n may go over: its entry may be used, its tie is earlier
pub data Proper (s : Sheet) (S : Set) (n : ℕ) : Bound → Type 0 where
  of_entry : {e : ℕ} → Usable s S e → Proper s S n (entry e)
  of-entry-back : {e : ℕ} → Usable s S e → Proper s S n (entry_back e)
  of-term : {i : ℕ} → Proper s S n (term i)
  of-term-back : {i : ℕ} → Proper s S n (term_back i)
  of-tie : {t : ℕ} → t < n → Proper s S n (tie t)
  of-tie-back : {t : ℕ} → t < n → Proper s S n (tie_back t)

module _ {s : Sheet} {S : Set} {steps : List Step} {n : ℕ} where
  over-proper : {b : Bound} {i j : ℕ} {g : Kind} → Over s S steps n b i j g → Proper s S n b
  over-proper (an-entry u g) = of_entry u
  over-proper (entry-back u r) = of-entry-back u
  over-proper (a-number l e) = of-term
  over-proper (number-back l e) = of-term-back
  over-proper (a-shift l e) = of-term
  over-proper (shift_back l e) = of-term-back
  over-proper (a-tie l h) = of-tie l
  over-proper (tie-back l h) = of-tie-back l

  chain-proper : {walk : List Bound} {i k : ℕ} {total : Kind} {b : Bound} → Chain s S steps n walk i k total → In b walk → Proper s S n b
  chain-proper stop m = absurd (not-nil m)
  chain-proper (step h w) (here e) = rw e (over-proper h)
  chain-proper (step h w) (later m) = chain-proper w m

  pub tie-proper : {k : Step} {b : Bound} → TieRight s S steps n k → In b (walks_of k) → Proper s S n b
  tie-proper (by-walks {there} a b h l p q) m = ⊎_elim (chain-proper p.chain) (chain-proper q.chain) (either there m)
  tie-proper (by-functions a b h same) m = absurd (not-nil m)

  pub closing-proper : {k : Step} {b : Bound} → Closing s S steps n k → In b (walks_of k) → Proper s S n b
  closing-proper (by-walk a w u) m = chain-proper w.chain m
  closing-proper (by-entry u r h) m = absurd (not-nil m)

-- so a step of a list that closes with its last one
pub step-proper : {s : Sheet} {S : Set} {steps : List Step} {last : ℕ} (n : ℕ) → n ≤ last → (n < last → TieRight s S steps n (step_at steps n)) →
    Closing s S steps last (step_at steps last) → (b : Bound) → In b (walks_of (step_at steps n)) → Proper s S n b
step-proper {s} {S} {last = last} n l r k b m = go (ℕ_discrete n last)
  where
    go : Dec (n ≡ last) → Proper s S n b
    go (yes e) = rw e (closing-proper k (rw e at m))
    go (no e) = tie-proper (r (omega arith)) m

-- the ties of a path are earlier ones
in-joined : {n t : ℕ} (p q : List ℕ) → (In t p → t < n) → (In t q → t < n) → In t (p ++ n ∷ q) → t < suc n
in-joined p q f g m = ⊎_elim (λ i. omega (arith, f i)) (λ i. ⊎_elim (λ e. omega arith) (λ j. omega (arith, g j)) (this-or-later i)) (either p m)

path-earlier : {steps : List Step} {n i j t : ℕ} {c : ℤ} {path : List ℕ} → Tied steps n i j c path → In t path → t < n
path-earlier itself m = absurd (not-nil m)
path-earlier (before h) m = omega (arith, path-earlier h m)
path-earlier (forth {p} {q} h t k) m = in-joined p q (λ i. path-earlier h i) (λ i. path-earlier k i) m
path-earlier (back {p} {q} h t k) m = in-joined p q (λ i. path-earlier h i) (λ i. path-earlier k i) m

between-earlier : {steps : List Step} {n t : ℕ} {x y : Term} {path : List ℕ} → Between steps n x y path → In t path → t < n
between-earlier (one h) m = path-earlier h m
between-earlier (first h) m = path-earlier h m
between-earlier (second h) m = path-earlier h m

tie-earlier : {s : Sheet} {S : Set} {n t : ℕ} → Proper s S n (tie t) → t < n
tie-earlier (of-tie l) = l

tie-back-earlier : {s : Sheet} {S : Set} {n t : ℕ} → Proper s S n (tie_back t) → t < n
tie-back-earlier (of-tie-back l) = l

-- what a step rests on is earlier
pub rests-earlier : {s : Sheet} {S : Set} {steps : List Step} {n t : ℕ} {k : Step} → ((b : Bound) → In b (walks_of k) → Proper s S n b) →
    Rests s steps n k t → t < n
rests-earlier f (over m) = tie-earlier (f _ m)
rests-earlier f (over-back m) = tie-back-earlier (f _ m)
rests-earlier f (arguments b m) = between-earlier b m
rests-earlier f (terms h m) = path-earlier h m
