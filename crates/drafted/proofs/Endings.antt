-- The steps of a draft with each of its three endings are good to prune: what is kept obeys the rules and is what the ending rests on.
-- Assumes nothing.
use Prim.Native.Nat.{ℕ, suc, ◌+◌, ◌≤◌, ◌<◌}
use mathlib.Core.Path.{◌≡◌, refl, ◌∙◌, subst}
use mathlib.Core.Bool.{Bool, true}
use mathlib.Core.Logic.{⊎_elim}
use mathlib.Core.List.Memᴰ.{eq_of_singleton as in_one}
use mathlib.Core.List.Memᴰ.{head as here}
use mathlib.Core.List.{List, [], ◌∷◌, Memᴰ as In}
use lib.IntN.{ℤ, pos, ◌+ℤ◌, +ℤ_idl, +ℤ_idr}
use lib.ListN.{length, get_or}
use native.Mathlib.Omega.{arith}
use native.Mathlib.Decide.{ℕ_discrete}
use Rattle.kind.specs.Code.{base, sum_of}
use Rattle.kind.specs.Kind.{Kind, no_gap, weak, strict, under_zero, added, kind_of}
use Rattle.kind.proofs.Codes.{sum-there}
use Rattle.closure.specs.Walk.{Tight}
use Rattle.cells.specs.Cells.{cell}
use Rattle.order.specs.First.{Set, marked}
use Rattle.sheet.specs.Sheet.{Sheet, WellFormed, entry_at}
use Rattle.settled.specs.Settled.{points, Saturated}
use Rattle.walked.specs.Borne.{Exact}
use Rattle.walked.proofs.Found.{under, kind-to, kind-back}
use Rattle.layers.specs.Bounds.{bounds, from_at, to_at, code_at, Listed, Goes}
use Rattle.layers.specs.declared.Bound.{Bound as ListedBound}
use Rattle.reasons.specs.Step.{Bound, Step, by_walks, closing_walk, closing_entry, step_at}
use Rattle.reasons.specs.Rules.{Point, Ties, Tied, Under, TieRight}
use Rattle.reasons.specs.Rules.Ties.{walks as of-walks}
use Rattle.reasons.specs.Rules.Tied.{forth}
use Rattle.reasons.specs.Rules.TieRight.{by-walks}
use Rattle.reasons.specs.Rules.Closing.{by-walk, by-entry}
use Rattle.reasons.specs.Reason.{Rests, Gathered as Gathers}
use Rattle.reasons.specs.Reason.Rests.{terms}
use Rattle.reasons.specs.Reason.Gathered.{own, further}
use Rattle.reasons.specs.Pruned.{Prunable}
use Rattle.reasons.proofs.Paths.{JoinsTwo, right-joins, one-path}
use Rattle.sketch.specs.Sketch.{bound_named, numbers_at, walk_at, step_of, Fits, ending}
use Rattle.forest.specs.Labels.{PathMarked}
use Rattle.forest.proofs.Groups.{apart}
use Rattle.forest.proofs.Ways.{way-itself}
use Rattle.needed.specs.Needed.{FoundBoth, FoundRound, Gathered}
use Rattle.drafted.specs.Drafted.{Drafted}
use Rattle.drafted.specs.Ending.{round_steps, path_steps, tie_steps, MarkedBehind, BrokenEntry}
use Rattle.drafted.proofs.Named.{all-earlier}
use Rattle.drafted.proofs.Walks.{known, least-total, round-of, walk_of, tie-in, in-tie, round-in, in-round, InPlace, found_in, marks-round}
use Rattle.drafted.proofs.Kept.{fits, joins, rests-over, walks-rest, round-rests, entry-rests, tie-left, tie-right, tie-either}
use Rattle.drafted.proofs.Levels.{tied-at-zero, tied-within}
use Rattle.drafted.proofs.Ends.{before-ending, at-ending, at_last, length-ending, prunable, one, one_more, ending-kept, way-there, way_back as way-behind}

under-rules : (k : Kind) → Tight k under_zero → Under k
unfolding Tight
under-rules no_gap h = h
under-rules (weak c) h = h
under-rules (strict c) h = h

module _ {s : Sheet} {S : Set} {list : List ListedBound} {names ties labels : List ℕ} {m listed count : ℕ} (W : WellFormed s)
    (D : Drafted s S list names ties labels m listed count) {walks walks' : List ℕ} {need need' : List Bool}
    (G : Gathered s list names ties count walks walks' need need') where
  pub round-prunable : {w : List ℕ} {before need₀ : List Bool} {d : ℕ → ℕ → ℕ} (e : ℕ) → e < listed →
      Exact (points s) (Listed (bounds e list)) d → sum_of (code_at list e) (d (to_at list e) (from_at list e)) < base →
      FoundRound (points s) (bounds e list) names e ending w walks before need₀ → ((t : ℕ) → marked before t ≡ true → ⊥) →
      MarkedBehind count need₀ need → marked need count ≡ true → length walks' ≡ length walks →
      Prunable s S (round_steps list names ties walks' count e) count (marked need')
  round-prunable {d = d} e e< X u F none M h same =
      let to< = D.sound.to< e e< in
      let from< = D.sound.from< e e< in
      let P = ending-kept W D G ending (omega arith) (omega (arith, W.terms)) same (found_in F.way) in
      let reached = (sum-there (code_at list e) (d (to_at list e) (from_at list e)) (omega arith)).1 in
      let total = least-total X to< from< reached P.goes P.least in
      let A = marks-round P.marks F.first in
      let K = known W D (omega arith) (all-earlier W D e (omega arith)) P.goes in
      let k = closing_walk (from_at list e) (bound_named (get_or names e 0) ∷ walk_at names walks' ending) in
      prunable W D G
      (one_more W D G k h
      (by-walk (omega arith)
      (round-of W D walks' ending e e< (fits W D G (one W D G k) (before-ending names ties walks' count (k ∷ []))) P.few P.goes)
      (under-rules (added (kind_of (code_at list e)) P.total) (rw total (under _ _ d X _ _ _ from< to< (D.sound.near e e<) u))))
      (λ t R. G.stays t (M.stays t (A.on t (round-in W D e (numbers_at walks' ending) e< K (round-rests R)))))
      (λ t l h. ⊎_elim (λ g. absurd (none t g)) (λ N. rests-over (in-round W D e (numbers_at walks' ending) e< K N)) (A.only t (M.only t l h))))

  pub path-prunable : {before need₀ : List Bool} {d : ℕ → ℕ → ℕ} {a b : ℕ} {c : ℤ} (x : ℕ) →
      Exact (points s) (Listed (bounds listed list)) d → Saturated s d → BrokenEntry s S d x a b c →
      PathMarked ties count a b before need₀ → ((t : ℕ) → marked before t ≡ true → ⊥) →
      MarkedBehind count need₀ need → marked need count ≡ true →
      Prunable s S (path_steps names ties walks' count x) count (marked need')
  path-prunable x X saturated K P none M h =
      let k = closing_entry x in
      let steps = one W D G k in
      let is = before-ending names ties walks' count (k ∷ []) in
      let F = fits W D G steps is in
      let T = P.tied steps F in
      let a< = rw K.a-is at (W.left x K.there) in
      let zero = K.c-is ∙ tied-at-zero W D X saturated F T (omega arith) K.tied in
      let T' : Tied steps count (entry_at s x).a (entry_at s x).b (pos 0) P.path = rw (K.a-is, K.b-is) T in
      prunable W D G
      (one_more W D G k h
      (by-entry {path = P.path} (record { there = K.there; on_list = K.on_list }) K.is-unequal (rw zero T'))
      (λ t R. entry-rests (λ c path U p.
      let (e, f) = one-path steps count (joins W D G steps is) U T' in
      G.stays t (M.stays t (P.on t (rw f at p)).1)) R)
      (λ t l g. ⊎_elim (λ q. absurd (none t q)) (λ p. terms T' p) (P.only t (M.only t l g))))

  -- a tie of the entry's terms, by walks, and then the entry
  module _ {w : List ℕ} {before need₀ : List Bool} {d : ℕ → ℕ → ℕ} {a b : ℕ} {c : ℤ} (x : ℕ)
      (X : Exact (points s) (Listed (bounds listed list)) d) (K : BrokenEntry s S d x a b c)
      (far : cell labels count a ≡ cell labels count b → ⊥)
      (F : FoundBoth (points s) (bounds listed list) a b names ending w walks before need₀)
      (none : (t : ℕ) → marked before t ≡ true → ⊥) (M : MarkedBehind count need₀ need) (h : marked need count ≡ true)
      (h' : marked need (count + 1) ≡ true) (same : length walks' ≡ length walks) where
    abbrev there : List Bound
    there = walk_at names walks' ending

    abbrev back : List Bound
    back = walk_at names walks' (ending + 1)

    abbrev joining : Step
    joining = by_walks a b c there back

    abbrev steps : List Step
    steps = tie_steps names ties walks' count a b c x

    is : (t : ℕ) → t < count → step_at steps t ≡ step_of names ties walks' t
    is = before-ending names ties walks' count (joining ∷ closing_entry x ∷ [])

    is-joining : step_at steps count ≡ joining
    is-joining = at-ending names ties walks' count joining (closing_entry x ∷ [])

    F' : Fits ties count steps
    F' = fits W D G steps is

    a< : a < points s
    a< = omega (arith, rw K.a-is at (W.left x K.there))

    b< : b < points s
    b< = omega (arith, rw K.b-is at (W.right x K.there))

    few : points s ≤ 129
    few = omega (arith, W.terms)

    -- its two walks
    way : InPlace (points s) (bounds listed list) a b names ending walks' before F.need-between
    way = way-there W D G F few same

    way_back : InPlace (points s) (bounds listed list) b a names (ending + 1) walks' F.need-between need₀
    way_back = way-behind W D G F few same

    -- over listed bounds
    listed-all : {i j : ℕ} {t : Kind} {es : List ℕ} → Goes (bounds listed list) i j t es → (b : ℕ) → In b es → b < listed
    listed-all = known W D (omega arith) (all-earlier W D listed (omega arith))

    joining-right : TieRight s S steps count joining
    joining-right =
        let p : Point s a = omega (arith, a<) in
        let q : Point s b = omega (arith, b<) in
        let e = least-total X a< b< K.tied.to.there way.goes way.least ∙ kind-to _ _ d X a b c a< b< K.tied in
        let f = least-total X b< a< K.tied.back.there way_back.goes way_back.least ∙ kind-back _ _ d X a b c a< b< K.tied in
        let earlier = all-earlier W D listed (omega arith) in
        by-walks p q (apart D.laid.labelled F' a< far) (tied-within X.table.closed c few a< b< K.tied)
        (walk_of W D (omega arith) earlier F' walks' ending way.few (rw e at way.goes))
        (walk_of W D (omega arith) earlier F' walks' (ending + 1) way_back.few (rw f at way_back.goes))

    both_tied : Tied steps (suc count) (entry_at s x).a (entry_at s x).b (entry_at s x).c (count ∷ [])
    both_tied =
        let T : Ties (step_at steps count) a b c = rw is-joining of-walks in
        let U : Tied steps (suc count) a b (pos 0 +ℤ (c +ℤ pos 0)) (count ∷ []) =
        forth ((way-itself count a).tied steps F') T ((way-itself count b).tied steps F') in
        rw (K.a-is, K.b-is, K.c-is) (subst (λ (y : ℤ). Tied steps (suc count) a b y (count ∷ [])) (+ℤ_idl _ ∙ +ℤ_idr c) U)

    all_join : (t : ℕ) → t < suc count → JoinsTwo steps t
    all_join t l = go (ℕ_discrete t count)
      where
        go : Dec (t ≡ count) → JoinsTwo steps t
        go (yes e) = rw e (right-joins {s = s} {S = S} (rw is-joining joining-right))
        go (no e) = joins W D G steps is t (omega arith)

    -- the tie rests on those of its walks, and the entry on the tie
    module _ (t : ℕ) where
      joining-kept : Rests s steps count joining t → marked need' t ≡ true
      joining-kept R =
          G.stays t (M.stays t
          (tie-either there back
          (λ T. way_back.marks.stays t (way.marks.on t (tie-in W D (numbers_at walks' ending) (listed-all way.goes) T)))
          (λ T. way_back.marks.on t (tie-in W D (numbers_at walks' (ending + 1)) (listed-all way_back.goes) T)) (walks-rest R)))

      joining-rests : marked need₀ t ≡ true → Rests s steps count joining t
      joining-rests g =
          ⊎_elim
          (λ k. ⊎_elim (λ l. absurd (none t l))
          (λ N. rests-over (tie-left there back (in-tie W D (numbers_at walks' ending) (listed-all way.goes) N)))
          (way.marks.only t k))
          (λ N. rests-over (tie-right there back (in-tie W D (numbers_at walks' (ending + 1)) (listed-all way_back.goes) N)))
          (way_back.marks.only t g)

      entry_kept : Rests s steps (suc count) (closing_entry x) t → marked need' t ≡ true
      entry_kept R =
          entry-rests
          (λ c path U p.
          let (e, f) = one-path steps (suc count) all_join U both_tied in
          let q : t ≡ count = in_one (rw f at p) in
          rw q (G.stays count h))
          R

    pub tie-prunable : Prunable s S steps (suc count) (marked need')
    tie-prunable =
        let e : step_at steps (suc count) ≡ closing_entry x = at_last names ties walks' count joining (closing_entry x) in
        let J : Gathers s steps (suc count) count = further {u = count} own (rw e (terms both_tied (here refl))) in
        prunable W D G
        record {
          is = is;
          size = length-ending names ties walks' count (joining ∷ closing_entry x ∷ []) ∙ omega arith;
          rules = λ n l l'. let p : n ≡ count = omega arith in rw (p, is-joining) joining-right;
          closing = rw e (by-entry {path = count ∷ []} (record { there = K.there; on_list = K.on_list }) K.is-unequal both_tied);
          last-kept = let p : suc count ≡ count + 1 = omega arith in rw p (G.stays (count + 1) h');
          rests-kept = rests-kept e;
          first-ones = λ t l g. further {u = t} J (rw is-joining (joining-rests t (M.only t l g)));
          gathered = λ n l l'. let p : n ≡ count = omega arith in rw p J;
        }
      where
        rests-kept : step_at steps (suc count) ≡ closing_entry x → (n t : ℕ) → count ≤ n → n ≤ suc count → Rests s steps n (step_at steps n) t →
            marked need' t ≡ true
        rests-kept e n t l l' R = go (ℕ_discrete n count)
          where
            go : Dec (n ≡ count) → marked need' t ≡ true
            go (yes p) = joining-kept t (rw (p, is-joining) at R)
            go (no p) = let q : n ≡ suc count = omega arith in entry_kept t (rw (q, e) at R)
