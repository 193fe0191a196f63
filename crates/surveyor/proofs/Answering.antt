-- The answer that each end of the walk through the steps gives: at a step that is wrong, behind the last, and at a step that closes.
-- Assumes nothing.
use Prim.Native.Nat.{ℕ, ◌+◌, ◌≤◌, ◌<◌}
use mathlib.Core.Path.{◌≡◌, refl, sym, ap, ◌∙◌}
use mathlib.Core.Logic.{◌↔◌, ◌⊎◌, inl, inr, ⊎_elim}
use mathlib.Core.Bool.{Bool, true, false, true≢false}
use mathlib.Core.List.{List}
use lib.ListN.{length}
use native.Mathlib.Omega.{arith}
use native.Mathlib.Decide.{ℕ_discrete}
use Rattle.order.specs.First.{Set, set_of, marked, Agree}
use Rattle.sheet.specs.Sheet.{Sheet, count_entries}
use Rattle.meaning.specs.Decides.{Decides}
use Rattle.reasons.specs.Step.{Step, step_at}
use Rattle.reasons.specs.Rules.{TieRight}
use Rattle.reasons.specs.Reason.{Rests, Gathered, Behind}
use Rattle.reasons.specs.Reason.Gathered.{own, further}
use Rattle.reasons.proofs.Bounds.{step-proper, rests-earlier}
use Rattle.stated.specs.Said.{step_of, steps_of, Formed, record_at}
use Rattle.stated.specs.declared.Step.{Step as Record}
use Rattle.stated.proofs.Said.{step-said}
use Rattle.linked.specs.Known.{Known}
use Rattle.linked.proofs.Few.{kin-few}
use Rattle.upheld.specs.Ruled.{RightTie, RightClosing, Ruled}
use Rattle.upheld.specs.declared.Ruling.{Ruling}
use Rattle.upheld.specs.declared.Ruling.TheVariants as ruling
use Rattle.gathered.specs.Gathers.{Upright, is_walked, Through, Gathers}
use Rattle.surveyor.specs.Surveyed.{TiesRight, ClosesRight, yes as right, wrong}
use Rattle.surveyor.specs.Inside.{Marks, Passed, Answers}
use Rattle.surveyor.specs.declared.Survey.TheVariants.{Yes, Wrong}
use Rattle.surveyor.proofs.Agreeing.{same_truth}
use Rattle.surveyor.proofs.Noting.{closing-open}

-- the ties are no more than the terms
pub few : {s : Sheet} {S : Set} {steps : List Step} {n : ℕ} {legs links : List ℕ} → Known s S steps n legs links → n ≤ 128
few K = omega (arith, kin-few K.links-are, K.links-are.terms)

-- what is told of marks
module _ (r : Bool) (k : ℕ) (A B : Set) {L : ℕ} (D : Decides (Agree k A B) r) (e : k ≡ L) where
  pub told-agree : r ≡ true → Agree L A B
  told-agree t = rw (sym e) (D.yes t)

  pub told-otherwise : r ≡ false → Agree L A B → ⊥
  told-otherwise t a = D.no t (rw e a)

-- nothing is walked yet
pub none-through : {s : Sheet} {steps : List Step} {n : ℕ} {entries : List Bool} {walked : List ℕ} → ((t : ℕ) → is_walked walked t ≡ false) →
    Through s steps n entries walked
none-through none = record {
  uses = λ t e l h u. absurd (true≢false (sym h ∙ none t));
  rests = λ t u l h r. absurd (true≢false (sym h ∙ none t));
}

-- what is gathered is what is behind the last step
module _ {s : Sheet} {listed : Set} {records : List Record} {last : ℕ} {legs links paths : List ℕ}
    (U : Upright s listed records last legs links paths) {old entries : List Bool} {gone walked : List ℕ}
    (G : Gathers s (steps_of records) last old gone entries walked) where
  reached : {t : ℕ} → Gathered s (steps_of records) last t → (t ≡ last) ⊎ ((t < last) × (is_walked walked t ≡ true))
  reached own = inl refl
  reached (further {t} {u} g r) = inr (⊎_elim (λ e. from_last (rw e at r)) (λ h. from-below h.0 h.1 r) (reached g))
    where
      earlier : (t : ℕ) → t ≤ last → Rests s (steps_of records) t (step_at (steps_of records) t) u → u < t
      earlier t l = rests-earlier (step-proper t l (U.known.ties t) (rw (step-said records last U.there) U.closing))

      from_last : Rests s (steps_of records) last (step_at (steps_of records) last) u → (u < last) × (is_walked walked u ≡ true)
      from_last r = (earlier last (omega arith) r, G.own-rests u r)

      from-below : t < last → is_walked walked t ≡ true → Rests s (steps_of records) t (step_at (steps_of records) t) u →
          (u < last) × (is_walked walked u ≡ true)
      from-below l h r = (omega (arith, earlier t (omega arith) r), G.below.rests t u l h r)

  gathered-behind : ((e : ℕ) → marked old e ≡ false) → (e : ℕ) → marked entries e ≡ true ↔ Behind s (steps_of records) last e
  gathered-behind none e = (
    λ h. ⊎_elim (λ k. absurd (true≢false (sym k ∙ none e))) (λ b. b) (G.only e h),
    λ b. ⊎_elim (λ d. G.own-uses e (rw d at b.uses)) (λ h. G.below.uses b.step e h.0 h.1 b.uses) (reached b.gathered),
  )

-- by the marks as by the list
module _ {s : Sheet} {list : List ℕ} {listed : List Bool} (M : Marks (count_entries s) list listed) {records : List Record} {n : ℕ} where
  ties-listed : Formed (record_at records n) → TieRight s (marked listed) (steps_of records) n (step_of (record_at records n)) →
      TiesRight s list records n
  ties-listed F r = record { formed = F; right = rw M.same at r }

  tie-marked : TiesRight s list records n → RightTie s (marked listed) (steps_of records) n (record_at records n)
  tie-marked T = record { formed = T.formed; right = rw M.same T.right }

  closing-marked : ClosesRight s list records n → RightClosing s (marked listed) (steps_of records) n (record_at records n)
  closing-marked C = record { formed = C.formed; closing = rw M.same C.closing }

module _ {s : Sheet} {listed : List Bool} {records : List Record} {n : ℕ} {legs links paths : List ℕ}
    (P : Passed s listed records n legs links paths) (l : n ≤ length records) where
  tied-before : {list : List ℕ} → Marks (count_entries s) list listed → (m : ℕ) → m < n → TiesRight s list records m
  tied-before M m h = ties-listed M (P.formed m h) (rw (step-said records m (omega arith)) at (P.known.ties m h))

  -- the first wrong step
  wrong-at : ((list : List ℕ) → Marks (count_entries s) list listed → n < length records → TiesRight s list records n → ⊥) →
      ((list : List ℕ) → Marks (count_entries s) list listed → n < length records → ClosesRight s list records n → ⊥) →
      Answers s listed records (Wrong n)
  wrong-at f g = record {
    told = λ list M. wrong M.rises (record { before = tied-before M; within = l; no_tie = f list M; no-closing = g list M }) refl refl;
  }

-- nothing but ties
pub no-closing-step : {s : Sheet} {listed : List Bool} {records : List Record} {n : ℕ} {legs links paths : List ℕ} →
    Passed s listed records n legs links paths → n ≡ length records → Answers s listed records (Wrong n)
no-closing-step P e = wrong-at P (omega arith) (λ list M h T. absurd (omega arith)) (λ list M h C. absurd (omega arith))

-- what is ruled of a step
module _ {s : Sheet} {listed : List Bool} {records : List Record} {n : ℕ} {legs links paths : List ℕ}
    (P : Passed s listed records n legs links paths) (l : n < length records) (k : Record) (same : k ≡ record_at records n) (r : Ruling)
    (R : Ruled s (marked listed) (steps_of records) n k r) where
  pub ruled-wrong : r ≡ ruling.Wrong → Answers s listed records (Wrong n)
  ruled-wrong e = let (f, g) = rw (e, same) at R in wrong-at P (omega arith) (λ list M h T. f (tie-marked M T)) (λ list M h C. g (closing-marked M C))

  pub ruled-ties : r ≡ ruling.Ties → RightTie s (marked listed) (steps_of records) n k
  ruled-ties e = rw e at R

  pub ruled-closes : r ≡ ruling.Closes → Upright s (marked listed) records n legs links paths
  ruled-closes e =
      let C = rw (e, same) at R in
      record { there = l; known = P.known; traced = P.traced; formed = λ t h. formed C t h (ℕ_discrete t n); closing = C.closing }
    where
      formed : RightClosing s (marked listed) (steps_of records) n (record_at records n) → (t : ℕ) → t ≤ n → Dec (t ≡ n) → Formed (record_at records t)
      formed C t h (yes d) = rw d C.formed
      formed C t h (no d) = P.formed t (omega arith)

-- a step that closes
module _ {s : Sheet} {listed : List Bool} {records : List Record} {n : ℕ} {legs links paths : List ℕ}
    (U : Upright s (marked listed) records n legs links paths) where
  ties-passed : Passed s listed records n legs links paths
  ties-passed = record { known = U.known; traced = U.traced; formed = λ t l. U.formed t (omega arith) }

  -- but is no reason for the list
  closes-wrong : ((list : List ℕ) → Marks (count_entries s) list listed → ClosesRight s list records n → ⊥) → Answers s listed records (Wrong n)
  closes-wrong f = wrong-at ties-passed (omega (arith, U.there)) (λ list M h T. closing-open U.closing T.right) (λ list M h C. f list M C)

  -- with a step behind it
  pub closes-early : n + 1 < length records → Answers s listed records (Wrong n)
  closes-early l = closes-wrong (λ list M C. omega (arith, C.last))

  module _ {old entries : List Bool} {gone walked : List ℕ} (G : Gathers s (steps_of records) n old gone entries walked)
      (none : (e : ℕ) → marked old e ≡ false) where
    -- with other entries behind it
    pub closes-otherwise : (Agree (count_entries s) (marked listed) (marked entries) → ⊥) → Answers s listed records (Wrong n)
    closes-otherwise f =
        closes-wrong (λ list M C. f (λ e l. let (g, h) = gathered-behind U G none e in let (i, j) = C.exactly e l in
        ap (λ (S : Set). S e) M.same ∙ same_truth (set_of list e) (marked entries e) (λ t. h (i t)) (λ t. j (g t))))

    -- and with the list's
    pub closes-last : length records ≤ n + 1 → Agree (count_entries s) (marked listed) (marked entries) → Answers s listed records Yes
    closes-last l A = record {
      told = λ list M. right M.rises
          (record {
            ties = tied-before ties-passed (omega (arith, U.there)) M;
            closes = record {
              last = omega (arith, U.there);
              formed = U.formed n (omega arith);
              closing = rw M.same at U.closing;
              exactly = λ e h. let (g, k) = gathered-behind U G none e in let a = ap (λ (S : Set). S e) (sym M.same) ∙ A e h in
                  (λ t. g (sym a ∙ t), λ b. a ∙ k b);
            };
          })
          refl refl;
    }
