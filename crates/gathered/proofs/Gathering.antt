-- Gathering, turn by turn, on the marks alone: a step's own entries are marked, then each tie that it rests on and that isn't walked yet is gathered.
-- Assumes nothing.
use Prim.Native.Nat.{ℕ, ◌+◌, ◌≤◌, ◌<◌}
use mathlib.Core.Path.{◌≡◌, refl, ◌∙◌, sym, subst}
use mathlib.Core.Logic.{◌⊎◌, inl, inr, ⊎_elim}
use mathlib.Core.Bool.{Bool, true, or-true, or-false, true≢false}
use mathlib.Core.List.{List}
use lib.ListN.{length}
use lib.Dec.{eqb}
use borrow.Author.Tests.{eqb-true, eq-eqb, ne_eqb}
use native.Mathlib.Omega.{arith}
use native.Mathlib.Nat.{eq-or-lt_of_le}
use Rattle.whole.proofs.Order.{order}
use Rattle.order.specs.First.{marked}
use Rattle.sheet.specs.Sheet.{Sheet}
use Rattle.reasons.specs.Step.{Step, step_at}
use Rattle.reasons.specs.Reason.{Rests, Gathered, Uses, Behind}
use Rattle.reasons.specs.Reason.Gathered.{own, further}
use Rattle.stated.specs.Said.{step_of}
use Rattle.stated.specs.declared.Step.{Step as Record}
use Rattle.sets.specs.declared.Ties.{Ties}
use Rattle.sets.specs.Sets.{has}
use Rattle.sets.proofs.Bits.{has-none}
use Rattle.basis.specs.Basis.{OwnMarked, RestsOn}
use Rattle.basis.proofs.Having.{one-true}
use Rattle.gathered.specs.Gathers.{is_walked, Through, Gathers, Next, NoNext}

-- one more tie is walked: what was so is so still, and nothing else is new
module _ {ties : Ties} {from : ℕ} {old new : List ℕ} {t : ℕ} (n : Next ties from old new t) where
  still-walked : (u : ℕ) → is_walked old u ≡ true → is_walked new u ≡ true
  still-walked u h = n.now-walked u ∙ rw h refl

  newly-walked : (u : ℕ) → is_walked new u ≡ true → (is_walked old u ≡ true) ⊎ (u ≡ t)
  newly-walked u h = ⊎_elim (λ a. inl a) (λ e. inr (eqb-true u t e)) ((one-true (is_walked old u) (eqb u t)).0 (sym (n.now-walked u) ∙ h))

  same-walked : (u : ℕ) → (u ≡ t → ⊥) → is_walked new u ≡ is_walked old u
  same-walked u h = n.now-walked u ∙ rw (ne_eqb u t h) (or-false (is_walked old u))

  this-walked : is_walked new t ≡ true
  this-walked = n.now-walked t ∙ rw (eq-eqb t t refl) (or-true (is_walked old t))

own-kept : {r : Record} {old new : List Bool} → OwnMarked r old new → (e : ℕ) → marked old e ≡ true → marked new e ≡ true
own-kept o e m = (o.own e).1 (inl m)

module _ (s : Sheet) (steps : List Step) (at : ℕ) where
  -- what is gathered from a tie that step `at` rests on is gathered from `at`
  through-tie : {t u : ℕ} → Rests s steps at (step_at steps at) t → Gathered s steps t u → Gathered s steps at u
  through-tie r own = further own r
  through-tie r (further g h) = further (through-tie r g) h

  -- before its first tie
  pub begun : {r : Record} {entries entries₀ : List Bool} {walked : List ℕ} → OwnMarked r entries entries₀ → Through s steps at entries walked →
      Through s steps at entries₀ walked
  begun o h = record { uses = λ t e l w u. own-kept o e (h.uses t e l w u); rests = h.rests }

  -- the ties of the set below `from` are gathered
  pub record Partly (ties : Ties) (from : ℕ) (entries : List Bool) (walked : List ℕ) (entries' : List Bool) (walked' : List ℕ) : Type 0 where
    pub kept : (e : ℕ) → marked entries e ≡ true → marked entries' e ≡ true
    pub still : (t : ℕ) → is_walked walked t ≡ true → is_walked walked' t ≡ true
    pub first : (t : ℕ) → t < from → has ties t ≡ true → is_walked walked' t ≡ true
    pub through : Through s steps at entries' walked'
    pub above : (t : ℕ) → at ≤ t → is_walked walked' t ≡ is_walked walked t
    pub only : (e : ℕ) → marked entries' e ≡ true → (marked entries e ≡ true) ⊎ Behind s steps at e
    pub lower : (t : ℕ) → is_walked walked' t ≡ true → (is_walked walked t ≡ true) ⊎ Gathered s steps at t

  pub none_yet : (ties : Ties) {entries : List Bool} {walked : List ℕ} → Through s steps at entries walked →
      Partly ties 0 entries walked entries walked
  none_yet ties h = record {
    kept = λ e m. m;
    still = λ t m. m;
    first = λ t l. absurd (omega (arith, l));
    through = h;
    above = λ t l. refl;
    only = λ e m. inl m;
    lower = λ t m. inl m;
  }

  -- the next one is found
  module _ {ties : Ties} {from : ℕ} {entries entries' : List Bool} {walked old new : List ℕ} {t : ℕ}
      (p : Partly ties from entries walked entries' old) (n : Next ties from old new t) where
    -- those of the set below it are walked
    passed : (u : ℕ) → u < t → has ties u ≡ true → is_walked old u ≡ true
    passed u k h = ⊎_elim (λ m. n.passed u m k h) (λ m. p.first u m h) (order from u)

    module _ (l : t < at) where
      -- before it is gathered
      pub next-through : Through s steps t entries' new
      next-through = record {
        uses = λ u e m w h. p.through.uses u e (omega (arith, l, m)) (was u m w) h;
        rests = λ u v m w h. still-walked n v (p.through.rests u v (omega (arith, l, m)) (was u m w) h);
      }
        where
          was : (u : ℕ) → u < t → is_walked new u ≡ true → is_walked old u ≡ true
          was u m w = sym (same-walked n u (λ e. omega (arith, m, e))) ∙ w

      -- and behind it
      pub one_more : {entries'' : List Bool} {walked'' : List ℕ} → Rests s steps at (step_at steps at) t →
          Gathers s steps t entries' new entries'' walked'' → Partly ties (t + 1) entries walked entries'' walked''
      one_more {walked''} r g = record {
        kept = λ e m. g.kept e (p.kept e m);
        still = λ u m. later u (p.still u m);
        first = λ u m h. ⊎_elim (λ q. g.still u (rw q (this-walked n))) (λ k. later u (passed u k h)) (eq-or-lt_of_le {n = u} {m = t} (omega (arith, m)));
        through = record {
          uses = λ u e m w h. by_order u (λ k. g.below.uses u e k w h)
              (λ q. g.own-uses e (subst (λ (i : ℕ). Uses (step_at steps i) e) q h))
              (λ k. g.kept e (p.through.uses u e m (was u k w) h));
          rests = λ u v m w h. by_order u (λ k. g.below.rests u v k w h)
              (λ q. g.own-rests v (subst (λ (i : ℕ). Rests s steps i (step_at steps i) v) q h))
              (λ k. later v (p.through.rests u v m (was u k w) h));
        };
        above = λ u m. same u (omega (arith, l, m)) ∙ p.above u m;
        only = λ e m. ⊎_elim (λ h. p.only e h) (λ k. inr (behind k)) (g.only e m);
        lower = λ u m. ⊎_elim (λ h. ⊎_elim (λ k. p.lower u k) (λ q. inr (rw q (further own r))) (newly-walked n u h)) (λ k. inr (through-tie r k))
            (g.lower u m);
      }
        where
          behind : {e : ℕ} → Behind s steps t e → Behind s steps at e
          behind k = record { step = k.step; gathered = through-tie r k.gathered; uses = k.uses }

          later : (u : ℕ) → is_walked old u ≡ true → is_walked walked'' u ≡ true
          later u h = g.still u (still-walked n u h)

          same : (u : ℕ) → t < u → is_walked walked'' u ≡ is_walked old u
          same u k = g.above u (omega (arith, k)) ∙ same-walked n u (λ e. omega (arith, k, e))

          was : (u : ℕ) → t < u → is_walked walked'' u ≡ true → is_walked old u ≡ true
          was u k w = sym (same u k) ∙ w

          by_order : {X : Type 0} (u : ℕ) → (u < t → X) → (u ≡ t → X) → (t < u → X) → X
          by_order u f g h = ⊎_elim (λ m. ⊎_elim (λ q. g (sym q)) h (eq-or-lt_of_le {n = t} {m = u} m)) f (order t u)

  -- there is no next one: all are walked
  module _ {ties : Ties} {from : ℕ} {entries entries' : List Bool} {walked old new : List ℕ}
      (p : Partly ties from entries walked entries' old) (n : NoNext ties from old new) where
    all-walked : (u : ℕ) → has ties u ≡ true → is_walked old u ≡ true
    all-walked u h =
        ⊎_elim (λ m. absurd (true≢false (sym h ∙ has-none ties m)))
        (λ k. ⊎_elim (λ m. n.passed u m k h) (λ m. p.first u m h) (order from u)) (order 128 u)

    pub done : {r : Record} {entries₀ : List Bool} → (length entries' ≡ length entries₀) × (length new ≡ length walked) →
        step_at steps at ≡ step_of r → OwnMarked r entries₀ entries → RestsOn s steps at r ties → Gathers s steps at entries₀ walked entries' new
    done {r} sizes is o rests = let same = n.same in rw same record {
      sizes = (sizes.0, rw (← same) sizes.1);
      kept = λ e m. p.kept e (own-kept o e m);
      still = p.still;
      own-uses = λ e u. p.kept e ((o.own e).1 (inr (subst (λ (k : Step). Uses k e) is u)));
      own-rests = λ u h. all-walked u ((rests.exactly u).1 (subst (λ (k : Step). Rests s steps at k u) is h));
      below = p.through;
      above = p.above;
      only = λ e m. ⊎_elim (λ h. ⊎_elim (λ old. inl old) (λ u. inr (itself e u)) ((o.own e).0 h)) (λ k. inr k) (p.only e m);
      lower = p.lower;
    }
      where
        itself : (e : ℕ) → Uses (step_of r) e → Behind s steps at e
        itself e u = record { step = at; gathered = own; uses = subst (λ (k : Step). Uses k e) (sym is) u }
