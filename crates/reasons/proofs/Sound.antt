-- A reason means that its entries clash: where levels meet the sheet on them, every bound and so every walk is true of the levels, by
-- induction every tie, and a closing step is true of no levels.
-- Assumes nothing.
use Prim.Native.Nat.{ℕ, zero, suc, ◌+◌, ◌*◌, ◌≤◌, ◌<◌}
use mathlib.Core.Path.{◌≡◌, sym, ◌∙◌, ap}
use mathlib.Core.Bool.{cond}
use mathlib.Core.List.{List}
use lib.Dec.{ltb}
use lib.IntN.{ℤ, pos, neg_ℤ, ◌+ℤ◌, ◌*ℤ◌, +ℤ_idl, +ℤ_invr}
use native.Mathlib.Nat.{mul-le-mul_right}
use native.Mathlib.Omega.{arith}
use native.Mathlib.Decide.{ℕ_discrete}
use borrow.Author.Tests.{lt-ltb, le-ltb}
use Rattle.whole.specs.Whole.{plus, minus}
use Rattle.whole.proofs.Parts.{add_parts, parts-inj, moved, plus-zero}
use Rattle.kind.specs.Kind.{Kind, no_gap, weak, strict, added, Says}
use Rattle.order.specs.First.{Set, set_of}
use Rattle.sheet.specs.Sheet.{Term, unknown, number, shift, apply, apply2, Relation, equal, Sheet, count_terms, term_at, entry_at, ArgumentsBelow, of_shift, WellFormed}
use Rattle.meaning.specs.Meaning.{Defined, SameInput, Compares, Meet, Clashes}
use Rattle.meaning.proofs.Meaning.{same-input-below}
use Rattle.reasons.specs.Step.{Bound, Step, step_at}
use Rattle.reasons.specs.Rules.{zero_level, Ties, Tied, Usable, Gap, Over, Chain, TieRight, Under, Closing}
use Rattle.reasons.specs.Rules.Ties.{walks, functions}
use Rattle.reasons.specs.Rules.Tied.{itself, before, forth, back}
use Rattle.reasons.specs.Rules.Gap.{of-equal, of-at-most, of-less}
use Rattle.reasons.specs.Rules.Over.{an-entry, entry-back, a-number, number-back, a-shift, shift_back, a-tie, tie-back}
use Rattle.reasons.specs.Rules.Chain.{stop, step}
use Rattle.reasons.specs.Rules.TieRight.{by-walks, by-functions}
use Rattle.reasons.specs.Rules.Closing.{by-walk, by-entry}
use Rattle.reasons.specs.Reason.{Closes, Reason}

-- a level moved by c and then by d is moved by their sum
sum_moved : (D : ℕ) (y z c d : ℤ) →
    plus (z +ℤ (c +ℤ d) *ℤ pos D) + minus (z +ℤ d *ℤ pos D) + minus (y +ℤ c *ℤ pos D) + plus y
    ≡ minus (z +ℤ (c +ℤ d) *ℤ pos D) + plus (z +ℤ d *ℤ pos D) + plus (y +ℤ c *ℤ pos D) + minus y
sum_moved D y z c d = omega (arith, moved y c D, moved z d D, moved z (c +ℤ d) D, ap (λ (n : ℕ). n * D) (add_parts c d))

-- what two gaps say of levels, one after the other, their sum says
pub says-added : (D : ℕ) (g h : Kind) (x y z : ℤ) → Says D g x y → Says D h y z → Says D (added g h) x z
unfolding added
says-added D no_gap no_gap x y z p q = tt
says-added D no_gap (weak d) x y z p q = tt
says-added D no_gap (strict d) x y z p q = tt
says-added D (weak c) no_gap x y z p q = tt
says-added D (weak c) (weak d) x y z p q = omega (arith, sum_moved D y z c d)
says-added D (weak c) (strict d) x y z p q = omega (arith, sum_moved D y z c d)
says-added D (strict c) no_gap x y z p q = tt
says-added D (strict c) (weak d) x y z p q = omega (arith, sum_moved D y z c d)
says-added D (strict c) (strict d) x y z p q = omega (arith, sum_moved D y z c d)

-- x is y + c
record At (D : ℕ) (x y c : ℤ) : Type 0 where
  is : x ≡ y +ℤ c *ℤ pos D

neg-parts : (c : ℤ) → plus c + plus (neg_ℤ c) ≡ minus c + minus (neg_ℤ c)
neg-parts c = omega (arith, add_parts c (neg_ℤ c), ap plus (+ℤ_invr c), ap minus (+ℤ_invr c))

module _ {D : ℕ} {x y c : ℤ} where
  at-most : At D x y c → Says D (weak c) x y
  at-most h = omega (arith, ap plus h.is, ap minus h.is)

  at-turned : At D x y c → At D y x (neg_ℤ c)
  at-turned h =
      let p : x ≡ y +ℤ c *ℤ pos D = h.is in
      record {
        is = parts-inj _ _
            (omega (arith, ap plus p, ap minus p, moved y c D, moved x (neg_ℤ c) D, ap (λ (n : ℕ). n * D) (neg-parts c)));
      }

  at_added : {z d : ℤ} → At D x y c → At D y z d → At D x z (c +ℤ d)
  at_added {z} {d} h k =
      let p : x ≡ y +ℤ c *ℤ pos D = h.is in
      let q : y ≡ z +ℤ d *ℤ pos D = k.is in
      record { is = parts-inj _ _ (omega (arith, ap plus p, ap minus p, ap plus q, ap minus q, sum_moved D y z c d)) }

  -- two bounds, one there and one back, leave one level
  at_both : Says D (weak c) x y → Says D (weak (neg_ℤ c)) y x → At D x y c
  at_both p q = record { is = parts-inj _ _ (omega (arith, moved y c D, moved x (neg_ℤ c) D, ap (λ (n : ℕ). n * D) (neg-parts c))) }

at_self : {D : ℕ} {x : ℤ} → At D x x (pos 0)
at_self {D} {x} = record { is = sym (plus-zero x D) }

at_level : {D : ℕ} {x y : ℤ} → At D x y (pos 0) → x ≡ y
at_level {D} {y = y} h = h.is ∙ plus-zero y D

-- what closes says of no level that it is so far from itself
under_none : (D : ℕ) (g : Kind) (x : ℤ) → 1 ≤ D → Under g → Says D g x x → ⊥
under_none D no_gap x d u h = u
under_none D (weak c) x d u h = omega (arith, moved x c D, mul-le-mul_right D u)
under_none D (strict c) x d u h = omega (arith, moved x c D, mul-le-mul_right D u)

gap-true : (D : ℕ) {r : Relation} {c : ℤ} {g : Kind} (x y : ℤ) → Gap r c g → Compares r x (y +ℤ c *ℤ pos D) → Says D g x y
gap-true D x y (of-equal {c}) h = at-most {D = D} {x = x} {y = y} {c = c} (record { is = h })
gap-true D x y of-at-most h = h
gap-true D x y of-less h = h

-- levels that are the same at every term meet what the others meet
module _ (s : Sheet) (S : Set) (D : ℕ) (n v : ℕ → ℤ) (W : WellFormed s) (same : (i : ℕ) → i < count_terms s → v i ≡ n i) where
  defined-same : (i : ℕ) (t : Term) (x : ℤ) → i < count_terms s → ArgumentsBelow i t → Defined D n x t → Defined D v x t
  defined-same i unknown x l b h = tt
  defined-same i (number c) x l b h = h
  defined-same i (shift a c) x l (of_shift k) h = rw (same a (omega arith)) h
  defined-same i (apply symbol a) x l b h = tt
  defined-same i (apply2 symbol a b) x l k h = tt

  meet-same : Meet s S D n → Meet s S D v
  meet-same m = record {
    positive = m.positive;
    defined = λ i l. rw (same i l) (defined-same i (term_at s i) (n i) l (W.arguments i l) (m.defined i l));
    functions = λ i j l k h.
        same i l
        ∙ m.functions i j l k
        (same-input-below i j (term_at s i) (term_at s j) (W.arguments i l) (W.arguments j k)
        (λ a b p q e. sym (same a (omega arith)) ∙ e ∙ same b (omega arith))
        h)
        ∙ sym (same j k);
    entries = λ e l h. rw (same _ (W.left e l), same _ (W.right e l)) (m.entries e l h);
  }

-- the first n steps are true of the levels v where they are ties
record True (D : ℕ) (v : ℕ → ℤ) (steps : List Step) (n : ℕ) : Type 0 where
  at : (t : ℕ) {a b : ℕ} {c : ℤ} → t < n → Ties (step_at steps t) a b c → At D (v a) (v b) c

module _ {D : ℕ} {v : ℕ → ℤ} {steps : List Step} where
  one_less : {n : ℕ} → True D v steps (suc n) → True D v steps n
  one_less f = record { at = λ t l. f.at t (omega arith) }

  tied-true : {n i j : ℕ} {c : ℤ} {path : List ℕ} → True D v steps n → Tied steps n i j c path → At D (v i) (v j) c
  tied-true f itself = at_self
  tied-true f (before h) = tied-true (one_less f) h
  tied-true f (forth {n} h t k) = at_added (tied-true (one_less f) h) (at_added (f.at n (omega arith) t) (tied-true (one_less f) k))
  tied-true f (back {n} h t k) =
      at_added (tied-true (one_less f) h) (at_added (at-turned (f.at n (omega arith) t)) (tied-true (one_less f) k))

-- levels that meet the sheet, with that of the zero level: what is true of them
module _ (s : Sheet) (S : Set) (D : ℕ) (v : ℕ → ℤ) (W : WellFormed s) (m : Meet s S D v) (z : v (zero_level s) ≡ pos 0) (steps : List Step) where
  number-true : {i : ℕ} {c : ℤ} → i < count_terms s → term_at s i ≡ number c → At D (v i) (v (zero_level s)) c
  number-true {i} {c} l e = record { is = (rw e at (m.defined i l)) ∙ sym (+ℤ_idl (c *ℤ pos D)) ∙ ap (λ (x : ℤ). x +ℤ c *ℤ pos D) (sym z) }

  shift-true : {i a : ℕ} {c : ℤ} → i < count_terms s → term_at s i ≡ shift a c → At D (v i) (v a) c
  shift-true {i} l e = record { is = rw e at (m.defined i l) }

  entry-true : {e : ℕ} → Usable s S e → (entry_at s e).relation ≡ equal → At D (v (entry_at s e).a) (v (entry_at s e).b) (entry_at s e).c
  entry-true {e} u r = record { is = rw r at (m.entries e u.there u.on_list) }

  module _ (n : ℕ) (f : True D v steps n) where
    over-true : {bound : Bound} {i j : ℕ} {g : Kind} → Over s S steps n bound i j g → Says D g (v i) (v j)
    over-true (an-entry {e} u g) = gap-true D _ _ g (m.entries e u.there u.on_list)
    over-true (entry-back {e} u r) = at-most (at-turned (entry-true u r))
    over-true (a-number l e) = at-most (number-true l e)
    over-true (number-back l e) = at-most (at-turned (number-true l e))
    over-true (a-shift l e) = at-most (shift-true l e)
    over-true (shift_back l e) = at-most (at-turned (shift-true l e))
    over-true (a-tie {t} l h) = at-most (f.at t l h)
    over-true (tie-back {t} l h) = at-most (at-turned (f.at t l h))

    chain-true : {walk : List Bound} {i k : ℕ} {total : Kind} → Chain s S steps n walk i k total → Says D total (v i) (v k)
    chain-true (stop {i}) = at-most (at_self {D = D} {x = v i})
    chain-true (step {i} {j} {k} {g} {t} h w) = says-added D g t (v i) (v j) (v k) (over-true h) (chain-true w)

    tie-true : {step : Step} {a b : ℕ} {c : ℤ} → TieRight s S steps n step → Ties step a b c → At D (v a) (v b) c
    tie-true (by-walks a b h l p q) walks = at_both (chain-true p.chain) (chain-true q.chain)
    tie-true (by-functions {a} {b} k l h same) functions =
        let alike : SameInput (λ i j. v i ≡ v j) (term_at s a) (term_at s b) =
        same-input-below a b _ _ (W.arguments a k) (W.arguments b l) (λ i j p q h. at_level (tied-true f h.tied)) same
        in
        record { is = m.functions a b k l alike ∙ sym (plus-zero (v b) D) }

    closing-false : {step : Step} → Closing s S steps n step → ⊥
    closing-false (by-walk {a} {total} h w u) = under_none D total (v a) m.positive u (chain-true w.chain)
    closing-false (by-entry {e} u r h) = (rw r at (m.entries e u.there u.on_list)) (tied-true f h).is

  one_more : {n : ℕ} → TieRight s S steps n (step_at steps n) → True D v steps n → True D v steps (suc n)
  one_more {n} r f = record { at = λ t l h. go t l h (ℕ_discrete t n) }
    where
      go : (t : ℕ) {a b : ℕ} {c : ℤ} → t < suc n → Ties (step_at steps t) a b c → Dec (t ≡ n) → At D (v a) (v b) c
      go t l h (yes e) = tie-true n f r (rw e at h)
      go t l h (no e) = f.at t (omega arith) h

  all_true : (n : ℕ) → ((t : ℕ) → t < n → TieRight s S steps t (step_at steps t)) → True D v steps n
  all_true zero r = record { at = λ t l h. absurd (omega arith) }
  all_true (suc n) r = one_more (r n (omega arith)) (all_true n (λ t l. r t (omega arith)))

  closes-false : (last : ℕ) → Closes s S steps last → ⊥
  closes-false last C = closing-false last (all_true last C.ties) C.closing

-- the values of the terms as levels, and 0 at the zero level
level : Sheet → (ℕ → ℤ) → ℕ → ℤ
level s n i = cond (ltb i (count_terms s)) (n i) (pos 0)

module _ (s : Sheet) (n : ℕ → ℤ) where
  level-term : (i : ℕ) → i < count_terms s → level s n i ≡ n i
  unfolding level
  level-term i l = rw (lt-ltb i (count_terms s) l)

  level-zero : level s n (zero_level s) ≡ pos 0
  unfolding level
  level-zero = rw (le-ltb (count_terms s) (count_terms s) (omega arith))

pub closes-clashes : (s : Sheet) (listed : Set) (steps : List Step) (last : ℕ) → WellFormed s → Closes s listed steps last → Clashes s listed
closes-clashes s listed steps last W C h =
    let v : ℕ → ℤ = level s h.n in
    let m : Meet s listed h.D v = meet-same s listed h.D h.n v W (level-term s h.n) h.meet in
    closes-false s listed h.D v W m (level-zero s h.n) steps last C

pub reason-clashes : (s : Sheet) (list : List ℕ) (steps : List Step) → WellFormed s → Reason s list steps → Clashes s (set_of list)
reason-clashes s list steps W R = closes-clashes s (set_of list) steps R.last W R.closes
