-- What a right step rests on is what its set has: the ties named in both rows, or those on the paths.
-- Assumes nothing.
use Prim.Native.Nat.{ℕ, zero, suc, ◌+◌, ◌≤◌, ◌<◌}
use mathlib.Core.Path.{◌≡◌, refl, sym, subst}
use mathlib.Core.Bool.{true, ◌||◌}
use mathlib.Core.Logic.{◌⊎◌, inl, inr, ⊎_elim, ◌≢◌, ◌↔◌}
use mathlib.Core.List.Memᴰ.{not-nil}
use mathlib.Core.List.{List, Memᴰ as In}
use lib.ListN.{length, get_or}
use lib.IntN.{ℤ, pos}
use native.Mathlib.Omega.{arith}
use Rattle.order.specs.First.{Set}
use Rattle.sheet.specs.Sheet.{Term, apply, apply2, Sheet, count_terms, count_entries, term_at, entry_at, ArgumentsBelow, WellFormed}
use Rattle.sheet.proofs.Below.{arguments-wider, argument, arguments}
use Rattle.sheet.proofs.Decode.{length-each}
use Rattle.meaning.specs.Meaning.{SameInput}
use Rattle.meaning.specs.Meaning.SameInput.{one as same-one, two as same-two}
use Rattle.reasons.specs.Step.{Bound, tie, tie_back, Step, by_walks, by_functions, closing_walk, closing_entry, walks_of}
use Rattle.reasons.specs.Rules.{Tied, Level, TieRight, Closing}
use Rattle.reasons.specs.Rules.TieRight.{by-walks, by-functions}
use Rattle.reasons.specs.Rules.Closing.{by-walk, by-entry}
use Rattle.reasons.specs.Reason.{Between, Rests}
use Rattle.reasons.specs.Reason.Between.{one as between-one, first as between_first, second as between-second}
use Rattle.reasons.specs.Reason.Rests.{over, over-back, arguments as by-arguments, terms as by-terms}
use Rattle.reasons.proofs.Bounds.{tie-proper, closing-proper, rests-earlier}
use Rattle.stated.specs.Said.{bound_of, step_of, walk_of}
use Rattle.stated.specs.declared.Step.{Step as Record}
use Rattle.sets.specs.declared.Ties.{Ties}
use Rattle.sets.specs.Sets.{has}
use Rattle.routes.specs.Routes.{PathSays}
use Rattle.linked.proofs.Few.{kin-few}
use Rattle.traced.proofs.Told.{traced-between}
use Rattle.basis.specs.Basis.{Stands, RestsOn, OfTie, WalkAdds, TwoPaths, InputsSay}
use Rattle.basis.specs.Basis.InputsSay.{one as says-one, two as says_two, other}
use Rattle.basis.proofs.Having.{either-has}
use Rattle.basis.proofs.Own.{NamedIn, step_is, rests-named, named-over, named_back}

-- what is said of two applications of one kind
module _ {links paths : List ℕ} {ties : Ties} where
  of_one : {f g a b : ℕ} → InputsSay links paths (apply f a) (apply g b) ties → PathSays links paths a b ties
  of_one (says-one P) = P
  of_one (other h e) = absurd (omega (arith, h refl))

  of_two : {f g a b a' b' : ℕ} → InputsSay links paths (apply2 f a b) (apply2 g a' b') ties → TwoPaths links paths a b a' b' ties
  of_two (says_two P) = P
  of_two (other h e) = absurd (omega (arith, h refl))

module _ {steps : List Step} {n : ℕ} {path : List ℕ} where
  on_one : {f g a b : ℕ} → Between steps n (apply f a) (apply g b) path → Tied steps n a b (pos 0) path
  on_one (between-one h) = h

  on-two : {f g a b a' b' : ℕ} → Between steps n (apply2 f a b) (apply2 g a' b') path →
      Tied steps n a a' (pos 0) path ⊎ Tied steps n b b' (pos 0) path
  on-two (between_first h) = inl h
  on-two (between-second h) = inr h

-- a step that goes over ties by walks only
abbrev Walking : Step → Type 0
Walking (by_walks a b c there back) = Unit
Walking (by_functions a b) = ⊥
Walking (closing_walk a round) = Unit
Walking (closing_entry e) = ⊥

gone-over : {s : Sheet} {steps : List Step} {n t : ℕ} {k : Step} → Walking k → Rests s steps n k t →
    In (tie t) (walks_of k) ⊎ In (tie_back t) (walks_of k)
gone-over w (over m) = inl m
gone-over w (over-back m) = inr m
gone-over w (by-arguments b m) = absurd w
gone-over w (by-terms h m) = absurd w

-- an entry whose terms are tied
record Ended (s : Sheet) (steps : List Step) (n e : ℕ) : Type 0 where
  there : e < count_entries s
  c : ℤ
  path : List ℕ
  tied : Tied steps n (entry_at s e).a (entry_at s e).b c path

module _ {s : Sheet} {listed : Set} {steps : List Step} {n : ℕ} where
  -- what the rules say of a right step of each kind
  functions-right : {a b : ℕ} → TieRight s listed steps n (by_functions a b) ⊎ Closing s listed steps n (by_functions a b) →
      (a < count_terms s) × (b < count_terms s) × SameInput (Level steps n) (term_at s a) (term_at s b)
  functions-right (inl (by-functions a b h same)) = (a, b, same)
  functions-right (inr c) = elim c [ ]

  entry-right : {e : ℕ} → TieRight s listed steps n (closing_entry e) ⊎ Closing s listed steps n (closing_entry e) → Ended s steps n e
  entry-right (inl t) = elim t [ ]
  entry-right (inr (by-entry {path = p} u r h)) = record { there = u.there; c = _; path = p; tied = h }

  walks-right : {a b : ℕ} {c : ℤ} {there back : List Bound} →
      TieRight s listed steps n (by_walks a b c there back) ⊎ Closing s listed steps n (by_walks a b c there back) →
      (length there ≤ count_terms s + 1) × (length back ≤ count_terms s + 1)
  walks-right (inl (by-walks a b h l p q)) = (p.few, q.few)
  walks-right (inr c) = elim c [ ]

  round-right : {a : ℕ} {round : List Bound} → TieRight s listed steps n (closing_walk a round) ⊎ Closing s listed steps n (closing_walk a round) →
      length round ≤ count_terms s + 1
  round-right (inl t) = elim t [ ]
  round-right (inr (by-walk a w u)) = w.few

module _ {s : Sheet} {listed : Set} {steps : List Step} {m : ℕ} {legs links paths : List ℕ} {n : ℕ} {r : Record} (W : WellFormed s)
    (S : Stands s listed steps m legs links paths n r) where
  path-has : {i j : ℕ} {c : ℤ} {p : List ℕ} (ties : Ties) → i < count_terms s → j < count_terms s → Tied steps n i j c p →
      PathSays links paths i j ties → (t : ℕ) → has ties t ≡ true ↔ In t p
  path-has ties a b h P = traced-between S.known S.traced S.among (omega arith) (omega arith) h ties P

  -- the step, of a known kind
  right-as : {k : Step} → step_of r ≡ k → TieRight s listed steps n k ⊎ Closing s listed steps n k
  right-as e = subst (λ (k : Step). TieRight s listed steps n k ⊎ Closing s listed steps n k) e S.right

  rests-as : {k : Step} {t : ℕ} → step_of r ≡ k → Rests s steps n (step_of r) t → Rests s steps n k t
  rests-as {t = t} e R = subst (λ (k : Step). Rests s steps n k t) e R

  as-rests : {k : Step} {t : ℕ} → step_of r ≡ k → Rests s steps n k t → Rests s steps n (step_of r) t
  as-rests {t = t} e R = subst (λ (k : Step). Rests s steps n k t) (sym e) R

  -- kind 3
  module _ (k : r.kind ≡ 3) where
    ended : Ended s steps n r.a
    ended = entry-right (right-as (step_is r 3 k))

    pub entry-within : r.a < count_entries s
    entry-within = ended.there

    pub terms-rest : {ties : Ties} → PathSays links paths (entry_at s r.a).a (entry_at s r.a).b ties → RestsOn s steps n r ties
    terms-rest {ties} P =
        record {
          exactly = λ t. (
            λ e. as-rests (step_is r 3 k) (by-terms ended.tied ((along ended.tied t).0 e)),
            λ R. there (rests-as (step_is r 3 k) R),
          );
        }
      where
        along : {c : ℤ} {p : List ℕ} → Tied steps n (entry_at s r.a).a (entry_at s r.a).b c p → (t : ℕ) → has ties t ≡ true ↔ In t p
        along h = path-has ties (W.left r.a entry-within) (W.right r.a entry-within) h P

        there : {t : ℕ} → Rests s steps n (closing_entry r.a) t → has ties t ≡ true
        there (over m) = absurd (not-nil m)
        there (over-back m) = absurd (not-nil m)
        there (by-terms h m) = (along h _).1 m

  -- kind 1
  module _ (k : r.kind ≡ 1) where
    pub applied : (r.a < count_terms s) × (r.b < count_terms s) × SameInput (Level steps n) (term_at s r.a) (term_at s r.b)
    applied = functions-right (right-as (step_is r 1 k))

    below : {i : ℕ} → i < count_terms s → ArgumentsBelow (count_terms s) (term_at s i)
    below {i} l = arguments-wider (omega arith) (W.arguments i l)

    -- a tie on a path between arguments
    record OnPath (f g : Term) (t : ℕ) : Type 0 where
      path : List ℕ
      between : Between steps n f g path
      on : In t path

    two-have : {f g a b a' b' : ℕ} {c d : ℤ} {p q : List ℕ} {ties : Ties} → ArgumentsBelow (count_terms s) (apply2 f a b) →
        ArgumentsBelow (count_terms s) (apply2 g a' b') → TwoPaths links paths a b a' b' ties → Tied steps n a a' c p → Tied steps n b b' d q →
        (t : ℕ) → has ties t ≡ true ↔ In t p ⊎ In t q
    two-have A B P h g =
        either-has P.first P.second _ P.all (path-has P.first (arguments A).0 (arguments B).0 h P.first_says)
        (path-has P.second (arguments A).1 (arguments B).1 g P.second-says)

    inputs : {f g : Term} {ties : Ties} → ArgumentsBelow (count_terms s) f → ArgumentsBelow (count_terms s) g → SameInput (Level steps n) f g →
        InputsSay links paths f g ties → (t : ℕ) → has ties t ≡ true ↔ OnPath f g t
    inputs {ties = ties} A B (same-one h) I t = (
      λ e. record { path = h.path; between = between-one h.tied; on = (path-has ties (argument A) (argument B) h.tied (of_one I) t).0 e },
      λ O. (path-has ties (argument A) (argument B) (on_one O.between) (of_one I) t).1 O.on,
    )
    inputs A B (same-two h g) I t = (
      λ e. ⊎_elim (λ m. record { path = h.path; between = between_first h.tied; on = m })
          (λ m. record { path = g.path; between = between-second g.tied; on = m }) ((two-have A B (of_two I) h.tied g.tied t).0 e),
      λ O. ⊎_elim (λ u. (two-have A B (of_two I) u g.tied t).1 (inl O.on)) (λ u. (two-have A B (of_two I) h.tied u t).1 (inr O.on))
          (on-two O.between),
    )

    pub inputs-rest : {ties : Ties} → InputsSay links paths (term_at s r.a) (term_at s r.b) ties → RestsOn s steps n r ties
    inputs-rest {ties} I =
        record { exactly = λ t. (λ e. let O = (said t).0 e in as-rests (step_is r 1 k) (by-arguments O.between O.on), λ R. there (rests-as (step_is r 1 k) R)) }
      where
        said : (t : ℕ) → has ties t ≡ true ↔ OnPath (term_at s r.a) (term_at s r.b) t
        said = inputs (below applied.0) (below applied.1) applied.2 I

        there : {t : ℕ} → Rests s steps n (by_functions r.a r.b) t → has ties t ≡ true
        there (over m) = absurd (not-nil m)
        there (over-back m) = absurd (not-nil m)
        there (by-arguments b m) = (said _).1 (record { path = _; between = b; on = m })

  -- the ties that are named are earlier ones, so few
  pub named-few : {t : ℕ} → NamedIn OfTie r t → t < 128
  named-few N =
      omega (
        arith,
        rests-earlier (λ b m. ⊎_elim (λ h. tie-proper h m) (λ h. closing-proper h m) S.right) (rests-named S.formed {steps = steps} N),
        S.among,
        kin-few S.known.links-are,
        W.terms,
      )

  -- kinds 0 and 2
  module _ (p : r.kind ≢ 1) (q : r.kind ≢ 3) where
    walking : Walking (step_of r)
    walking = go r.kind refl
      where
        go : (x : ℕ) → r.kind ≡ x → Walking (step_of r)
        go zero e = rw (step_is r 0 e) tt
        go (suc zero) e = absurd (p e)
        go (suc (suc zero)) e = rw (step_is r 2 e) tt
        go (suc (suc (suc zero))) e = absurd (q e)
        go (suc (suc (suc (suc x)))) e = absurd (omega (arith, S.formed.kind))

    pub walks-few : (r.first ≤ 129) × (r.second ≤ 129)
    walks-few = go r.kind refl
      where
        first-long : length (walk_of r.first r.there) ≡ r.first
        first-long = length-each r.first (λ x. bound_of (get_or r.there x 0))

        second-long : length (walk_of r.second r.back) ≡ r.second
        second-long = length-each r.second (λ x. bound_of (get_or r.back x 0))

        go : (x : ℕ) → r.kind ≡ x → (r.first ≤ 129) × (r.second ≤ 129)
        go zero e = let (a, b) = walks-right (right-as (step_is r 0 e)) in (omega (arith, W.terms, first-long), omega (arith, W.terms, second-long))
        go (suc zero) e = absurd (p e)
        go (suc (suc zero)) e =
            let a = round-right (right-as (step_is r 2 e)) in (omega (arith, W.terms, first-long), omega (arith, S.formed.second (omega arith)))
        go (suc (suc (suc zero))) e = absurd (q e)
        go (suc (suc (suc (suc x)))) e = absurd (omega (arith, S.formed.kind))

    pub walks-rest : {first second ties : Ties} → WalkAdds r.first r.there first → WalkAdds r.second r.back second →
        ((t : ℕ) → has ties t ≡ has first t || has second t) → RestsOn s steps n r ties
    walks-rest {first} {second} {ties} D E f =
        record {
          exactly = λ t. (
            λ e. rests-named S.formed ((either-has first second ties f D.exactly E.exactly t).0 e),
            λ R. (either-has first second ties f D.exactly E.exactly t).1
                (⊎_elim (λ m. named-over S.formed m) (λ m. named_back S.formed m) (gone-over walking R)),
          );
        }
