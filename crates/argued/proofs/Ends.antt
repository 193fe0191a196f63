-- The steps of an ending behind those of the kept ties: all of them are kept, and their bytes and the head make up what is to be written.
-- Assumes nothing.
use Rattle.std.proofs.Common.{◌≡◌, ℕ, zero, suc, ◌+◌, ◌<◌, ◌≤◌, Bool, true, false, List, [], ◌∷◌, ◌++◌, map, length, ℤ, sym, refl, ap, ◌∙◌, append_assoc, append-nil, add-zero, arith, length-append}
use Rattle.big.specs.Big.{signed_of}
use Rattle.order.specs.First.{Set}
use Rattle.sheet.specs.Decode.{each}
use Rattle.sheet.proofs.Decode.{length-each}
use Rattle.reasons.specs.Step.{Bound, Step, by_walks, by_functions, closing_walk, closing_entry}
use Rattle.reasons.specs.Pruned.{rank, renamed_walk, renamed, pruned_from, pruned}
use Rattle.reasons.proofs.Rank.{rank-zero, pruned-length}
use Rattle.sketch.specs.Sketch.{bound_named, walk_at, how_of, tie_step, step_of, steps_of, ending}
use Rattle.paper.specs.Record.{head_length, head_bytes, step_head, step_bytes, steps_bytes, count_ties, reason_room}
use Rattle.paper.specs.Written.{Appended, ranked_bound, ranked_walk, Ranked, Nameable, Readable}
use Rattle.paper.proofs.Heads.{signed-zero}
use Rattle.paper.proofs.Pieces.{then}
use Rattle.paper.proofs.Ranks.{bound-agrees, place-agrees}
use Rattle.paper.proofs.Kept.{pruned-nil, pruned-cons, pruned-append}
use Rattle.argued.specs.Argued.{StepsWritten}

steps-append : (ks js : List Step) → steps_bytes (ks ++ js) ≡ steps_bytes ks ++ steps_bytes js
unfolding steps_bytes
steps-append [] js = refl
steps-append (k ∷ ks) js = rw (steps-append ks js) (sym (append_assoc (step_bytes k) (steps_bytes ks) (steps_bytes js)))

ties-append : (ks js : List Step) → count_ties (ks ++ js) ≡ count_ties ks + count_ties js
unfolding count_ties
ties-append [] js = omega arith
ties-append (by_walks a b c p q ∷ ks) js = omega (arith, ties-append ks js)
ties-append (by_functions a b ∷ ks) js = omega (arith, ties-append ks js)
ties-append (closing_walk a p ∷ ks) js = ties-append ks js
ties-append (closing_entry e ∷ ks) js = ties-append ks js

length-map : (f : Step → Step) (ks : List Step) → length (map f ks) ≡ length ks
length-map f [] = refl
length-map f (k ∷ ks) = ap suc (length-map f ks)

module _ (keep : Set) where
  -- what is all kept is renamed only
  all-kept : (n : ℕ) (ks : List Step) → ((i : ℕ) → i < length ks → keep (n + i) ≡ true) → pruned_from keep n ks ≡ map (renamed keep) ks
  all-kept n [] h = pruned-nil keep n
  all-kept n (k ∷ ks) h =
      let e : keep n ≡ true = rw (add-zero n) at (h 0 (omega arith)) in
      let rest : (i : ℕ) → i < length ks → keep (suc n + i) ≡ true =
      λ i l. rw (let p : n + suc i ≡ suc n + i = omega arith in p) at (h (suc i) (omega arith)) in
      rw (pruned-cons keep n k ks, e, all-kept (suc n) ks rest)

  -- a tie's step is a tie, also renamed
  tie-counts : (how a b : ℕ) (p q : List Bound) (ks : List Step) → count_ties (renamed keep (tie_step how a b p q) ∷ ks) ≡ suc (count_ties ks)
  unfolding tie_step count_ties
  tie-counts zero a b p q ks = refl
  tie-counts (suc e) a b p q ks = refl

  all-ties : (n count : ℕ) (f : ℕ → Step) → ((t : ℕ) (ks : List Step) → count_ties (renamed keep (f t) ∷ ks) ≡ suc (count_ties ks)) →
      count_ties (pruned_from keep n (each count f)) ≡ length (pruned_from keep n (each count f))
  unfolding each pruned_from count_ties
  all-ties n zero f h = refl
  all-ties n (suc count) f h = go (keep n) refl (all-ties (suc n) count (λ t. f (suc t)) (λ t. h (suc t)))
    where
      rest : List Step
      rest = pruned_from keep (suc n) (each count (λ t. f (suc t)))

      go : (t : Bool) → keep n ≡ t → count_ties rest ≡ length rest →
          count_ties (pruned_from keep n (each (suc count) f)) ≡ length (pruned_from keep n (each (suc count) f))
      go true e q = rw e (h 0 rest ∙ ap suc q)
      go false e q = rw e q

  module _ (names ties walks : List ℕ) (count : ℕ) where
    abbrev laid : List Step
    laid = steps_of names ties walks count

    kept-length : length (pruned keep laid) ≡ rank keep count
    kept-length =
        let e : 0 + length laid ≡ count = omega (arith, length-each count (step_of names ties walks)) in
        omega (arith, pruned-length keep laid 0, rank-zero keep, ap (rank keep) e)

    kept_ties : count_ties (pruned keep laid) ≡ rank keep count
    kept_ties = all-ties 0 count (step_of names ties walks) (λ t ks. tie-counts (how_of _) _ _ _ _ ks) ∙ kept-length

    module _ (ends : List Step) (whole : (i : ℕ) → i < length ends → keep (count + i) ≡ true) where
      with-ends : pruned keep (laid ++ ends) ≡ pruned keep laid ++ map (renamed keep) ends
      with-ends =
          let e : 0 + length laid ≡ count = omega (arith, length-each count (step_of names ties walks)) in
          rw (pruned-append keep 0 laid ends, e, all-kept count ends whole)

      -- the ties, then the ending, then the head
      steps-written : {old mid more new : List ℕ} {k at end t n : ℕ} →
          Appended old mid (head_length + k) at (steps_bytes (pruned keep laid)) → Appended mid more at end (steps_bytes (map (renamed keep) ends)) →
          Appended more new 0 head_length (head_bytes end t k n) → t ≡ rank keep count + count_ties (map (renamed keep) ends) →
          n ≡ rank keep count + length ends → end ≤ reason_room → StepsWritten k (pruned keep (laid ++ ends)) old new end
      steps-written {more} {k} {end} {t} {n} A B H p q l =
          let ties-are : count_ties (pruned keep (laid ++ ends)) ≡ t =
          ap count_ties with-ends ∙ ties-append (pruned keep laid) (map (renamed keep) ends) ∙ omega (arith, kept_ties) in
          let steps-are : length (pruned keep (laid ++ ends)) ≡ n =
          ap length with-ends ∙ length-append (pruned keep laid) (map (renamed keep) ends) ∙ omega (arith, kept-length, length-map (renamed keep) ends) in
          record {
            between = more;
            written = rw (with-ends, steps-append) (then A B);
            head = rw (ties-are, steps-are) H;
            short = l;
          }

-- the bytes of one step, and of two
one-step : {old new : List ℕ} {at end : ℕ} (k : Step) → Appended old new at end (step_bytes k) → Appended old new at end (steps_bytes (k ∷ []))
unfolding steps_bytes
one-step k A = rw (append-nil (step_bytes k)) A

two_steps : {old mid new : List ℕ} {at p end : ℕ} (j k : Step) → Appended old mid at p (step_bytes j) → Appended mid new p end (step_bytes k) →
    Appended old new at end (steps_bytes (j ∷ k ∷ []))
unfolding steps_bytes
two_steps j k A B = rw (append-nil (step_bytes k)) (then A B)

-- a closing entry, as it is written
entry-step : {old new : List ℕ} {at end : ℕ} (e : ℕ) → Appended old new at end (step_head 3 e 0 (signed_of 8 0) 0 0) →
    Appended old new at end (step_bytes (closing_entry e))
entry-step e A = rw (← signed-zero) A

first-kept : (keep : Set) (count : ℕ) → keep count ≡ true → (i : ℕ) → i < 1 → keep (count + i) ≡ true
first-kept keep count h i l = rw (let p : count + i ≡ count = omega arith in p) h

two-kept : (keep : Set) (count : ℕ) → keep count ≡ true → keep (count + 1) ≡ true → (i : ℕ) → i < 2 → keep (count + i) ≡ true
two-kept keep count h h' zero l = first-kept keep count h 0 (omega arith)
two-kept keep count h h' (suc zero) l = h'
two-kept keep count h h' (suc (suc i)) l = absurd (omega arith)

-- a name is one among more ties too
pub more-names : {t u name : ℕ} → t ≤ u → Nameable t name → Nameable u name
more-names l N = record { known = N.known; earlier = λ k. omega (arith, N.earlier k) }

-- so each of the three endings is written, with ties by their ranks
module _ {keep : Set} {ranks : List ℕ} (names ties walks : List ℕ) {count k kept : ℕ} (R : Ranked keep ranks count) (q : kept ≡ rank keep count)
    {old mid new : List ℕ} {at end : ℕ} (A : Appended old mid (head_length + k) at (steps_bytes (pruned keep (steps_of names ties walks count))))
    (l : end ≤ reason_room) where
  pub round-ends : {more : List ℕ} (a name : ℕ) → keep count ≡ true → Nameable count name → Readable count names walks ending →
      Appended mid more at end (step_bytes (closing_walk a (ranked_bound ranks (bound_named name) ∷ ranked_walk ranks (walk_at names walks ending)))) →
      Appended more new 0 head_length (head_bytes end kept k (kept + 1)) →
      StepsWritten k (pruned keep (steps_of names ties walks count ++ closing_walk a (bound_named name ∷ walk_at names walks ending) ∷ [])) old new end
  unfolding renamed_walk count_ties
  round-ends a name h N P B H =
      let walk = bound_named name ∷ walk_at names walks ending in
      let B' : Appended mid _ at end (step_bytes (closing_walk a (renamed_walk keep walk))) =
      rw (bound-agrees keep ranks count R name N, place-agrees keep ranks count R names walks ending P) at B in
      steps-written keep names ties walks count (closing_walk a walk ∷ []) (first-kept keep count h) A
      (one-step (closing_walk a (renamed_walk keep walk)) B') H (omega arith) (omega arith) l

  pub path-ends : {more : List ℕ} (e : ℕ) → keep count ≡ true → Appended mid more at end (step_head 3 e 0 (signed_of 8 0) 0 0) →
      Appended more new 0 head_length (head_bytes end kept k (kept + 1)) →
      StepsWritten k (pruned keep (steps_of names ties walks count ++ closing_entry e ∷ [])) old new end
  unfolding count_ties
  path-ends e h B H =
      steps-written keep names ties walks count (closing_entry e ∷ []) (first-kept keep count h) A (one-step (closing_entry e) (entry-step e B)) H
      (omega arith) (omega arith) l

  pub tie-ends : {tied more : List ℕ} {p : ℕ} (a b : ℕ) (c : ℤ) (e : ℕ) → keep count ≡ true → keep (count + 1) ≡ true →
      Readable count names walks ending → Readable count names walks (ending + 1) →
      Appended mid tied at p (step_bytes (by_walks a b c (ranked_walk ranks (walk_at names walks ending)) (ranked_walk ranks (walk_at names walks (ending + 1))))) →
      Appended tied more p end (step_head 3 e 0 (signed_of 8 0) 0 0) →
      Appended more new 0 head_length (head_bytes end (kept + 1) k (kept + 2)) →
      StepsWritten k (pruned keep (steps_of names ties walks count ++ by_walks a b c (walk_at names walks ending) (walk_at names walks (ending + 1)) ∷ closing_entry e ∷ []))
      old new end
  unfolding count_ties
  tie-ends a b c e h h' P Q B C H =
      let there = walk_at names walks ending in
      let back = walk_at names walks (ending + 1) in
      let B' : Appended mid _ at _ (step_bytes (by_walks a b c (renamed_walk keep there) (renamed_walk keep back))) =
      rw (place-agrees keep ranks count R names walks ending P, place-agrees keep ranks count R names walks (ending + 1) Q) at B in
      steps-written keep names ties walks count (by_walks a b c there back ∷ closing_entry e ∷ []) (two-kept keep count h h') A
      (two_steps (by_walks a b c (renamed_walk keep there) (renamed_walk keep back)) (closing_entry e) B' (entry-step e C)) H
      (omega arith) (omega arith) l
