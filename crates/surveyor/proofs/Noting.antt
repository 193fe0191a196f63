-- The steps that have passed: none, and one more by a right tie that is noted.
-- Assumes nothing.
use Prim.Native.Nat.{ℕ, ◌+◌, ◌%◌, ◌≤◌, ◌<◌}
use mathlib.Core.Path.{◌≡◌, refl, sym, ap, ◌∙◌}
use mathlib.Core.Bool.{Bool}
use mathlib.Core.List.{List}
use lib.IntN.{ℤ, pos}
use lib.ListN.{length, set, replicate, length-set, length-replicate}
use lib.Seq.{get_or-set_other}
use native.Mathlib.Numerals.{add-one}
use native.Mathlib.Omega.{arith}
use native.Mathlib.Decide.{ℕ_discrete}
use Rattle.big.specs.Big.{signed_of, complement_of}
use Rattle.order.specs.First.{Set, marked}
use Rattle.sheet.specs.Decode.{sheet_of}
use Rattle.sheet.specs.Sheet.{Sheet, count_terms, WellFormed}
use Rattle.reasons.specs.Step.{Bound, Step, by_walks, by_functions, closing_walk, closing_entry, step_at}
use Rattle.reasons.specs.Rules.{Ties, TieWithin, TieRight, Closing}
use Rattle.reasons.specs.Rules.Ties.{walks, functions}
use Rattle.reasons.specs.Rules.TieRight.{by-walks, by-functions}
use Rattle.reasons.specs.Rules.Closing.{by-walk, by-entry}
use Rattle.stated.specs.Said.{step_of, steps_of, Formed, record_at}
use Rattle.stated.specs.declared.Step.{Step as Record}
use Rattle.stated.proofs.Said.{step-said}
use Rattle.legs.specs.Legs.{range, gap_for, word_of, either_way, tie_place}
use Rattle.links.specs.Links.{top_of, Joined}
use Rattle.routes.specs.Routes.{LaidPath}
use Rattle.strides.proofs.Gaps.{tie-gap}
use Rattle.strides.proofs.Told.{trodden-start}
use Rattle.linked.proofs.Known.{known_start, known_next}
use Rattle.linked.proofs.Ties.{few-ties}
use Rattle.traced.proofs.Told.{traced-start, traced-next}
use Rattle.upheld.specs.Ruled.{Asked, RightTie}
use Rattle.basis.specs.Basis.{Lent}
use Rattle.surveyor.specs.Inside.{Begun, Passed, TiesLaid}
use Rattle.surveyor.proofs.Marking.{all-blank}

-- what the record of a right tie says
record TieSaid (s : Sheet) (r : Record) : Type 0 where
  c : ℤ
  ties : Ties (step_of r) r.a r.b c
  within : TieWithin c
  left : r.a ≤ count_terms s
  right : r.b ≤ count_terms s
  gap_is : r.c % range ≡ gap_for c

module _ {s : Sheet} {S : Set} {steps : List Step} {n a b : ℕ} where
  walks-within : {c : ℤ} {there back : List Bound} → TieRight s S steps n (by_walks a b c there back) →
      TieWithin c × (a ≤ count_terms s) × (b ≤ count_terms s)
  walks-within (by-walks p q h w t u) = (w, p, q)

  functions-within : TieRight s S steps n (by_functions a b) → (a ≤ count_terms s) × (b ≤ count_terms s)
  functions-within (by-functions p q h i) = (omega arith, omega arith)

-- a closing step is no tie
module _ {s : Sheet} {S : Set} {steps : List Step} {n a : ℕ} where
  walk-open : {round : List Bound} → TieRight s S steps n (closing_walk a round) → ⊥
  walk-open t = elim t [ ]

  entry-open : TieRight s S steps n (closing_entry a) → ⊥
  entry-open t = elim t [ ]

pub closing-open : {s : Sheet} {S R : Set} {steps : List Step} {n : ℕ} {k : Step} → Closing s S steps n k → TieRight s R steps n k → ⊥
closing-open (by-walk a w u) t = walk-open t
closing-open (by-entry u r h) t = entry-open t

tie-said : {s : Sheet} {S : Set} {steps : List Step} {n : ℕ} {r : Record} → RightTie s S steps n r → TieSaid s r
unfolding step_of complement_of
tie-said {s} {r = r} R = kind (ℕ_discrete r.kind 0) (ℕ_discrete r.kind 1) (ℕ_discrete r.kind 2)
  where
    kind : Dec (r.kind ≡ 0) → Dec (r.kind ≡ 1) → Dec (r.kind ≡ 2) → TieSaid s r
    kind (yes e) _ _ =
        let (w, p, q) = walks-within (rw e at R.right) in
        record { c = signed_of 8 r.c; ties = rw e walks; within = w; left = p; right = q; gap_is = tie-gap r.c w }
    kind (no _) (yes e) _ =
        let (p, q) = functions-within (rw e at R.right) in
        let z = R.formed.c (omega arith) in
        record { c = pos 0; ties = rw e functions; within = (omega arith, omega arith); left = p; right = q; gap_is = rw z refl }
    kind (no _) (no _) (yes e) = absurd (walk-open (rw e at R.right))
    kind (no a) (no b) (no c) = let e : r.kind ≡ 3 = let k = R.formed.kind in omega arith in absurd (entry-open (rw e at R.right))

-- before the first step nothing is tied
pub laid-size : {sheet : List ℕ} {listed : List Bool} {legs : List ℕ} → Begun sheet listed legs → length legs ≡ 768
laid-size B = B.legs-are.size ∙ length-replicate {A = ℕ} 768 0

pub none-laid : {legs : List ℕ} → TiesLaid legs legs
none-laid = record { size = refl; before = λ k l. refl }

pub one-laid : {old legs legs' : List ℕ} (n leg : ℕ) → legs' ≡ set legs (tie_place + n) leg → TiesLaid old legs → TiesLaid old legs'
one-laid {legs = legs} n leg e L = rw e record {
  size = length-set legs (tie_place + n) leg ∙ L.size;
  before = λ k l. get_or-set_other legs (tie_place + n) k leg 0 (λ f. omega arith) ∙ L.before k l;
}

pub none_passed : {sheet : List ℕ} {listed : List Bool} {records : List Record} {legs : List ℕ} → Begun sheet listed legs →
    Passed (sheet_of sheet) listed records 0 legs (replicate 256 (top_of 1)) (replicate 512 0)
none_passed B = record {
  known = known_start (trodden-start (length-replicate {A = ℕ} 768 0) (all-blank 0 768) B.well-formed B.legs-are) B.well-formed;
  traced = traced-start;
  formed = λ t l. absurd (omega arith);
}

-- what is lent to the check of the next step, and behind a closing one
module _ {sheet before legs links paths : List ℕ} {listed : List Bool} {records : List Record} {n : ℕ} (B : Begun sheet listed before)
    (P : Passed (sheet_of sheet) listed records n legs links paths) where
  pub asked : Asked sheet legs links
  asked = record {
    sized = B.sized;
    well-formed = B.well-formed;
    legs-size = P.known.legs-are.size;
    links-size = P.known.links-are.size;
    rising = P.known.links-are.rising;
  }

  pub lent : Lent sheet links paths
  lent = record {
    sized = B.sized;
    well-formed = B.well-formed;
    links-size = P.known.links-are.size;
    rising = P.known.links-are.rising;
    paths-size = P.traced.size;
  }

module _ {s : Sheet} {listed : List Bool} {records : List Record} {n : ℕ} {legs links paths : List ℕ} {r : Record} (wf : WellFormed s)
    (l : n < length records) (same : r ≡ record_at records n) (P : Passed s listed records n legs links paths)
    (R : RightTie s (marked listed) (steps_of records) n r) where
  said : step_at (steps_of records) n ≡ step_of r
  said = step-said records n l ∙ ap step_of (sym same)

  -- with it the ties are at most as many as the terms
  pub tie-fits : n < 128
  tie-fits = omega (arith, wf.terms, few-ties s (marked listed) (steps_of records) wf.terms (n + 1) ties)
    where
      tie : (t : ℕ) → t < n + 1 → Dec (t ≡ n) → TieRight s (marked listed) (steps_of records) t (step_at (steps_of records) t)
      tie t h (yes d) = rw (d, said) R.right
      tie t h (no d) = P.known.ties t (omega arith)

      ties : (t : ℕ) → t < n + 1 → TieRight s (marked listed) (steps_of records) t (step_at (steps_of records) t)
      ties t h = tie t h (ℕ_discrete t n)

  pub passed-more : {legs' links' paths' : List ℕ} → legs' ≡ set legs (tie_place + n) (word_of either_way (r.c % range) r.a r.b) →
      LaidPath links paths paths' n r.a r.b → Joined links links' n r.a r.b (r.c % range) →
      Passed s listed records (n + 1) legs' links' paths'
  passed-more e laid joined =
      let T = tie-said R in
      record {
        known = rw (add-one n, e, T.gap_is)
            (known_next P.known wf (rw said R.right) (rw said T.ties) T.within T.left T.right (rw T.gap_is at joined));
        traced = traced-next P.known P.traced (rw said R.right) {c = T.c} (rw said T.ties) T.left T.right joined laid;
        formed = λ t h. formed t h (ℕ_discrete t n);
      }
    where
      formed : (t : ℕ) → t < n + 1 → Dec (t ≡ n) → Formed (record_at records t)
      formed t h (yes d) = rw (d, ← same) R.formed
      formed t h (no d) = P.formed t (omega arith)
