-- The ties of a draft as the first of some steps: each joins two groups, those that are kept obey the rules, and what they rest on is kept.
-- And a tie is kept only where the ending rests on it, through others.
-- Assumes nothing.
use Prim.Native.Nat.{ℕ, zero, suc, ◌+◌, ◌*◌, ◌≤◌, ◌<◌}
use mathlib.Core.Path.{◌≡◌, refl}
use mathlib.Core.Bool.{Bool, true}
use mathlib.Core.Logic.{◌⊎◌, inl, inr, ⊎_elim}
use mathlib.Core.List.Memᴰ.{append_cases as either}
use mathlib.Core.List.Memᴰ.{append_left as in_left}
use mathlib.Core.List.Memᴰ.{append_right as in_right}
use mathlib.Core.List.Memᴰ.{not-nil}
use mathlib.Core.List.{List, ◌++◌, Memᴰ as In}
use lib.IntN.{ℤ, pos}
use lib.ListN.{get_or}
use native.Mathlib.Omega.{arith}
use Rattle.order.specs.First.{Set, marked}
use Rattle.sheet.specs.Sheet.{Term, apply, apply2, Sheet, term_at, entry_at, WellFormed}
use Rattle.layers.specs.declared.Bound.{Bound as ListedBound}
use Rattle.meaning.specs.Meaning.{SameInput, one, two}
use Rattle.reasons.specs.Step.{Bound, Step, by_walks, by_functions, closing_walk, closing_entry, step_at, walks_of}
use Rattle.reasons.specs.Rules.{Point, Ties, Tied, Apart, Level, TieWithin, TieRight}
use Rattle.reasons.specs.Rules.Ties.{walks as of-walks, functions as of-functions}
use Rattle.reasons.specs.Rules.TieRight.{by-walks, by-functions}
use Rattle.reasons.specs.Reason.{Between, Rests, Gathered as Gathers}
use Rattle.reasons.specs.Reason.Between.{one as only, first, second}
use Rattle.reasons.specs.Reason.Rests.{over, over-back, arguments, terms}
use Rattle.reasons.specs.Reason.Gathered.{further}
use Rattle.reasons.proofs.Paths.{JoinsTwo, one-path}
use Rattle.sketch.specs.Sketch.{numbers_at, walk_at, tie_step, step_of, how_of, left, right, Fits}
use Rattle.forest.proofs.Rows.{labelled-less}
use Rattle.forest.proofs.Groups.{fits-less, apart}
use Rattle.needed.specs.Needed.{PathOn, Facing, Leads, Led, Gathered}
use Rattle.needed.specs.Needed.Facing.{one as facing, first as facing-first, second as facing-second}
use Rattle.needed.specs.Needed.Leads.{there as leads-there, back as leads-back, arguments as leads-arguments}
use Rattle.drafted.specs.Drafted.{Drafted}
use Rattle.drafted.proofs.Named.{OfTie, forwards, backwards, behind}
use Rattle.drafted.proofs.Walks.{TieIn, tie-in, in-tie, known, walk_of}

-- a step ties two points only
pub ties-one : {k : Step} {a b a' b' : ℕ} {c c' : ℤ} → Ties k a b c → Ties k a' b' c' → (a ≡ a') × (b ≡ b')
ties-one of-walks of-walks = (refl, refl)
ties-one of-functions of-functions = (refl, refl)

same-as : {P Q : ℕ → ℕ → Type 0} {x y : Term} → ((a b : ℕ) → P a b → Q a b) → SameInput P x y → SameInput Q x y
same-as f (one p) = one (f _ _ p)
same-as f (two p q) = two (f _ _ p) (f _ _ q)

-- the ties of a tie's step, and what it rests on
tie-ties : (how a b : ℕ) (p q : List Bound) → Ties (tie_step how a b p q) a b (pos 0)
unfolding tie_step
tie-ties zero a b p q = of-functions
tie-ties (suc e) a b p q = of-walks

module _ {s : Sheet} {steps : List Step} {n t : ℕ} where
  pub rests-over : {k : Step} → TieIn (walks_of k) t → Rests s steps n k t
  rests-over T = go T.there T.of-tie
    where
      go : {k : Step} {b : Bound} → In b (walks_of k) → OfTie b t → Rests s steps n k t
      go p forwards = over p
      go p backwards = over-back p

  pub walks-rest : {a b : ℕ} {c : ℤ} {p q : List Bound} → Rests s steps n (by_walks a b c p q) t → TieIn (p ++ q) t
  walks-rest (over m) = record { bound = _; there = m; of-tie = forwards }
  walks-rest (over-back m) = record { bound = _; there = m; of-tie = backwards }

  pub round-rests : {a : ℕ} {p : List Bound} → Rests s steps n (closing_walk a p) t → TieIn p t
  round-rests (over m) = record { bound = _; there = m; of-tie = forwards }
  round-rests (over-back m) = record { bound = _; there = m; of-tie = backwards }

  pub entry-rests : {A : Type 0} {x : ℕ} → ((c : ℤ) (path : List ℕ) → Tied steps n (entry_at s x).a (entry_at s x).b c path → In t path → A) →
      Rests s steps n (closing_entry x) t → A
  entry-rests f (over m) = absurd (not-nil m)
  entry-rests f (over-back m) = absurd (not-nil m)
  entry-rests f (terms T m) = f _ _ T m

module _ (p q : List Bound) {t : ℕ} where
  pub tie-left : TieIn p t → TieIn (p ++ q) t
  tie-left T = record { bound = T.bound; there = in_left q T.there; of-tie = T.of-tie }

  pub tie-right : TieIn q t → TieIn (p ++ q) t
  tie-right T = record { bound = T.bound; there = in_right p T.there; of-tie = T.of-tie }

  pub tie-either : {A : Type 0} → (TieIn p t → A) → (TieIn q t → A) → TieIn (p ++ q) t → A
  tie-either f g T =
      ⊎_elim (λ m. f (record { bound = T.bound; there = m; of-tie = T.of-tie }))
      (λ m. g (record { bound = T.bound; there = m; of-tie = T.of-tie }))
      (either p T.there)

module _ {s : Sheet} {S : Set} {list : List ListedBound} {names ties labels : List ℕ} {m listed count : ℕ} (W : WellFormed s)
    (D : Drafted s S list names ties labels m listed count) {walks walks' : List ℕ} {need need' : List Bool}
    (G : Gathered s list names ties count walks walks' need need') (steps : List Step)
    (is : (t : ℕ) → t < count → step_at steps t ≡ step_of names ties walks' t) where
  pub fits : Fits ties count steps
  fits = record { at = λ t l. rw (is t l) (tie-ties (how_of (get_or ties t 0)) _ _ _ _) }

  module _ (t : ℕ) (l : t < count) where
    fits-before : Fits ties t steps
    fits-before = fits-less (omega arith) fits

    ends-apart : Apart steps t (left ties t) (right ties t)
    ends-apart = apart (labelled-less (omega arith) D.laid.labelled) fits-before (D.laid.labelled.left< t l) (D.laid.labelled.apart t l)

    pub joins : JoinsTwo steps t
    joins = record { apart = λ a b c T. let (p, q) = ties-one T (fits.at t l) in rw (p, q) ends-apart }

  module _ (t : ℕ) (l : t < count) where
    abbrev way : List Bound
    way = walk_at names walks' (2 * t)

    abbrev way_back : List Bound
    way_back = walk_at names walks' (2 * t + 1)

    module _ (kept : marked need' t ≡ true) where
      level : (a b : ℕ) → PathOn ties t need' a b → Level steps t a b
      level a b P = record { path = P.path; tied = P.tied steps (fits-before t l) }

      right-step : (how : ℕ) → how_of (get_or ties t 0) ≡ how →
          TieRight s S steps t (tie_step how (left ties t) (right ties t) way way_back)
      unfolding tie_step
      right-step zero how =
          let F = D.laid.of-functions t l how in
          by-functions F.left< F.right< (ends-apart t l) (same-as level (G.functions t l kept how))
      right-step (suc e) how =
          let (e<, earlier) = behind W D t l how in
          let T = G.there t e l kept how in
          let B = G.back t e l kept how in
          let a : Point s (left ties t) = omega (arith, D.laid.labelled.left< t l) in
          let b : Point s (right ties t) = omega (arith, D.laid.labelled.right< t l) in
          let c : TieWithin (pos 0) = (omega arith, omega arith) in
          by-walks a b (ends-apart t l) c
          (walk_of W D (omega arith) earlier fits walks' (2 * t) T.few T.goes)
          (walk_of W D (omega arith) earlier fits walks' (2 * t + 1) B.few B.goes)

      pub tie-right-rules : TieRight s S steps t (step_at steps t)
      tie-right-rules = rw (is t l) (right-step (how_of (get_or ties t 0)) refl)

      on-path : {i j u : ℕ} {path : List ℕ} → PathOn ties t need' i j → Tied steps t i j (pos 0) path → In u path → marked need' u ≡ true
      on-path {u = u} P T h =
          P.on u (rw (one-path steps t (λ v k. joins v (omega arith)) T (P.tied steps (fits-before t l))).1 at h)

      one-on : {x y a b : ℕ} → SameInput (PathOn ties t need') (apply x a) (apply y b) → PathOn ties t need' a b
      one-on (one P) = P

      two-on : {x y a b c d : ℕ} → SameInput (PathOn ties t need') (apply2 x a b) (apply2 y c d) → PathOn ties t need' a c × PathOn ties t need' b d
      two-on (two P Q) = (P, Q)

      between-kept : {x y : Term} {u : ℕ} {path : List ℕ} → SameInput (PathOn ties t need') x y → Between steps t x y path → In u path →
          marked need' u ≡ true
      between-kept S (only T) h = on-path (one-on S) T h
      between-kept S (first T) h = on-path (two-on S).0 T h
      between-kept S (second T) h = on-path (two-on S).1 T h

      functions-kept : {a b u : ℕ} → SameInput (PathOn ties t need') (term_at s a) (term_at s b) → Rests s steps t (by_functions a b) u →
          marked need' u ≡ true
      functions-kept P (over h) = absurd (not-nil h)
      functions-kept P (over-back h) = absurd (not-nil h)
      functions-kept P (arguments B h) = between-kept P B h

      step_kept : {u : ℕ} (how : ℕ) → how_of (get_or ties t 0) ≡ how →
          Rests s steps t (tie_step how (left ties t) (right ties t) way way_back) u → marked need' u ≡ true
      unfolding tie_step
      step_kept zero how R = functions-kept (G.functions t l kept how) R
      step_kept {u} (suc e) how R =
          let (e<, earlier) = behind W D t l how in
          let T = G.there t e l kept how in
          let B = G.back t e l kept how in
          tie-either way way_back
          (λ h. T.on u (tie-in W D (numbers_at walks' (2 * t)) (known W D (omega arith) earlier T.goes) h))
          (λ h. B.on u (tie-in W D (numbers_at walks' (2 * t + 1)) (known W D (omega arith) earlier B.goes) h))
          (walks-rest R)

      pub tie-rests-kept : (u : ℕ) → Rests s steps t (step_at steps t) u → marked need' u ≡ true
      tie-rests-kept u R = step_kept (how_of (get_or ties t 0)) refl (rw (is t l) at R)

      -- what leads from it, it rests on
      facing-path : {x y : Term} {i j : ℕ} {path : List ℕ} → Facing x y i j → Tied steps t i j (pos 0) path → Between steps t x y path
      facing-path facing T = only T
      facing-path facing-first T = first T
      facing-path facing-second T = second T

      led : {u : ℕ} → Leads s names ties walks' t u → Rests s steps t (step_at steps t) u
      unfolding tie_step
      led (leads-there {e = e} how N) =
          let (e<, earlier) = behind W D t l how in
          let K = known W D (omega arith) earlier (G.there t e l kept how).goes in
          rw (is t l, how) (rests-over (tie-left way way_back (in-tie W D (numbers_at walks' (2 * t)) K N)))
      led (leads-back {e = e} how N) =
          let (e<, earlier) = behind W D t l how in
          let K = known W D (omega arith) earlier (G.back t e l kept how).goes in
          rw (is t l, how) (rests-over (tie-right way way_back (in-tie W D (numbers_at walks' (2 * t + 1)) K N)))
      led (leads-arguments how F T h) = rw (is t l, how) (arguments (facing-path F (T steps (fits-before t l))) h)

  -- so a kept tie is gathered, where those that were marked before are
  module _ {last : ℕ} (first-ones : (t : ℕ) → t < count → marked need t ≡ true → Gathers s steps last t) where
    gathered-from : (rest t : ℕ) → count ≤ t + rest → t < count → marked need' t ≡ true → Gathers s steps last t
    gathered-from zero t h l kept = absurd (omega arith)
    gathered-from (suc rest) t h l kept = go (λ u. gathered-from rest u) (G.only t kept)
      where
        go : ((u : ℕ) → count ≤ u + rest → u < count → marked need' u ≡ true → Gathers s steps last u) →
            (marked need t ≡ true) ⊎ Led s names ties walks' need' count t → Gathers s steps last t
        go f (inl e) = first-ones t l e
        go f (inr L) = further (f L.by (omega (arith, L.later)) L.there L.needed) (led L.by L.there L.needed L.leads)

    pub tie-gathered : (t : ℕ) → t < count → marked need' t ≡ true → Gathers s steps last t
    tie-gathered t l kept = gathered-from count t (omega arith) l kept
