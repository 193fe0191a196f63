-- A right tie or a right closing, kind by kind: the record's unused fields are 0, and the rest is what the rules ask of such a step.
-- Assumes nothing.
use Prim.Native.Nat.{ℕ, ◌≤◌, ◌<◌}
use mathlib.Core.Path.{◌≡◌, sym, subst}
use mathlib.Core.Logic.{inl, inr, ⊎_elim}
use mathlib.Core.List.{List}
use native.Mathlib.Omega.{arith}
use lib.IntN.{neg_ℤ}
use Rattle.big.specs.Big.{signed_of}
use Rattle.kind.specs.Kind.{weak}
use Rattle.order.specs.First.{Set}
use Rattle.sheet.specs.Sheet.{unequal, Sheet, count_terms, term_at, entry_at}
use Rattle.meaning.specs.Meaning.{SameInput}
use Rattle.reasons.specs.Step.{Step, by_walks, by_functions, closing_walk, closing_entry}
use Rattle.reasons.specs.Rules.{Apart, Level, Usable, TieWithin, TieRight, Closing}
use Rattle.reasons.specs.Rules.TieRight.{by-walks, by-functions}
use Rattle.reasons.specs.Rules.Closing.{by-walk, by-entry}
use Rattle.stated.specs.Said.{walk_of, WalkFormed, step_of}
use Rattle.stated.specs.declared.Step.{Step as Record}
use Rattle.upheld.specs.Ruled.{RightTie, RightClosing}
use Rattle.upheld.proofs.Walks.{Walked, Sinks}
use Rattle.upheld.proofs.Groups.{TiedBy}

no_walk : {count : ℕ} (bounds : List ℕ) → count ≡ 0 → WalkFormed count bounds
no_walk bounds e x l = absurd (omega arith)

-- the step of each kind
module _ (k : Record) where
  walks-is : k.kind ≡ 0 → step_of k ≡ by_walks k.a k.b (signed_of 8 k.c) (walk_of k.first k.there) (walk_of k.second k.back)
  unfolding step_of
  walks-is e = rw e

  functions-is : k.kind ≡ 1 → step_of k ≡ by_functions k.a k.b
  unfolding step_of
  functions-is e = rw e

  round_is : k.kind ≡ 2 → step_of k ≡ closing_walk k.a (walk_of k.first k.there)
  unfolding step_of
  round_is e = rw e

  entry-is : k.kind ≡ 3 → step_of k ≡ closing_entry k.a
  unfolding step_of
  entry-is e = rw e

module _ (s : Sheet) (listed : Set) (steps : List Step) (n : ℕ) (k : Record) where
  pub record ByWalks : Type 0 where
    pub left : k.a ≤ count_terms s
    pub right : k.b ≤ count_terms s
    pub within : TieWithin (signed_of 8 k.c)
    pub apart : Apart steps n k.a k.b
    pub there : Walked s listed steps n k.first k.there k.a k.b (weak (signed_of 8 k.c))
    pub back : Walked s listed steps n k.second k.back k.b k.a (weak (neg_ℤ (signed_of 8 k.c)))

  pub record ByFunctions : Type 0 where
    pub c : k.c ≡ 0
    pub first : k.first ≡ 0
    pub second : k.second ≡ 0
    pub left : k.a < count_terms s
    pub right : k.b < count_terms s
    pub apart : Apart steps n k.a k.b
    pub same : SameInput (Level steps n) (term_at s k.a) (term_at s k.b)

  pub record Round : Type 0 where
    pub b : k.b ≡ 0
    pub c : k.c ≡ 0
    pub second : k.second ≡ 0
    pub point : k.a ≤ count_terms s
    pub sinks : Sinks s listed steps n k.first k.there k.a k.a

  pub record OnEntry : Type 0 where
    pub b : k.b ≡ 0
    pub c : k.c ≡ 0
    pub first : k.first ≡ 0
    pub second : k.second ≡ 0
    pub usable : Usable s listed k.a
    pub unequal-is : (entry_at s k.a).relation ≡ unequal
    pub tied : TiedBy steps n (entry_at s k.a).a (entry_at s k.a).b (entry_at s k.a).c

module _ {s : Sheet} {listed : Set} {steps : List Step} {n : ℕ} {k : Record} where
  module _ (kind : k.kind ≡ 0) where
    pub walks-tie : ByWalks s listed steps n k → RightTie s listed steps n k
    walks-tie W = record {
      formed = record {
        kind = omega arith;
        b = λ h. absurd (omega arith);
        c = λ h. absurd (omega arith);
        first = ⊎_elim (λ h. absurd (omega arith)) (λ h. absurd (omega arith));
        second = λ h. absurd (omega arith);
        there = W.there.formed;
        back = W.back.formed;
      };
      right = subst (TieRight s listed steps n) (sym (walks-is k kind))
          (by-walks W.left W.right W.apart W.within W.there.walk W.back.walk);
    }

    pub tie-walks : RightTie s listed steps n k → ByWalks s listed steps n k
    tie-walks R = go (subst (TieRight s listed steps n) (walks-is k kind) R.right)
      where
        go : TieRight s listed steps n (by_walks k.a k.b (signed_of 8 k.c) (walk_of k.first k.there) (walk_of k.second k.back)) →
            ByWalks s listed steps n k
        go (by-walks l r h w p q) = record {
          left = l;
          right = r;
          within = w;
          apart = h;
          there = record { formed = R.formed.there; walk = p };
          back = record { formed = R.formed.back; walk = q };
        }

  module _ (kind : k.kind ≡ 1) where
    pub functions-tie : ByFunctions s listed steps n k → RightTie s listed steps n k
    functions-tie F = record {
      formed = record {
        kind = omega arith;
        b = λ h. absurd (omega arith);
        c = λ h. F.c;
        first = λ h. F.first;
        second = λ h. F.second;
        there = no_walk k.there F.first;
        back = no_walk k.back F.second;
      };
      right = subst (TieRight s listed steps n) (sym (functions-is k kind)) (by-functions F.left F.right F.apart F.same);
    }

    pub tie-functions : RightTie s listed steps n k → ByFunctions s listed steps n k
    tie-functions R = go (subst (TieRight s listed steps n) (functions-is k kind) R.right)
      where
        go : TieRight s listed steps n (by_functions k.a k.b) → ByFunctions s listed steps n k
        go (by-functions l r h same) = record {
          c = R.formed.c (omega arith);
          first = R.formed.first (inl kind);
          second = R.formed.second (omega arith);
          left = l;
          right = r;
          apart = h;
          same = same;
        }

  module _ (kind : k.kind ≡ 2) where
    pub round-closing : Round s listed steps n k → RightClosing s listed steps n k
    round-closing W = record {
      formed = record {
        kind = omega arith;
        b = λ h. W.b;
        c = λ h. W.c;
        first = ⊎_elim (λ h. absurd (omega arith)) (λ h. absurd (omega arith));
        second = λ h. W.second;
        there = W.sinks.walked.formed;
        back = no_walk k.back W.second;
      };
      closing = subst (Closing s listed steps n) (sym (round_is k kind)) (by-walk W.point W.sinks.walked.walk W.sinks.under);
    }

    pub closing-round : RightClosing s listed steps n k → Round s listed steps n k
    closing-round R = go (subst (Closing s listed steps n) (round_is k kind) R.closing)
      where
        go : Closing s listed steps n (closing_walk k.a (walk_of k.first k.there)) → Round s listed steps n k
        go (by-walk {total = total} p w u) = record {
          b = R.formed.b (omega arith);
          c = R.formed.c (omega arith);
          second = R.formed.second (omega arith);
          point = p;
          sinks = record { total = total; walked = record { formed = R.formed.there; walk = w }; under = u };
        }

  module _ (kind : k.kind ≡ 3) where
    pub entry-closing : OnEntry s listed steps n k → RightClosing s listed steps n k
    entry-closing E = record {
      formed = record {
        kind = omega arith;
        b = λ h. E.b;
        c = λ h. E.c;
        first = λ h. E.first;
        second = λ h. E.second;
        there = no_walk k.there E.first;
        back = no_walk k.back E.second;
      };
      closing = subst (Closing s listed steps n) (sym (entry-is k kind)) (by-entry E.usable E.unequal-is E.tied.tied);
    }

    pub closing-entry : RightClosing s listed steps n k → OnEntry s listed steps n k
    closing-entry R = go (subst (Closing s listed steps n) (entry-is k kind) R.closing)
      where
        go : Closing s listed steps n (closing_entry k.a) → OnEntry s listed steps n k
        go (by-entry {path = path} u e t) = record {
          b = R.formed.b (omega arith);
          c = R.formed.c (omega arith);
          first = R.formed.first (inr kind);
          second = R.formed.second (omega arith);
          usable = u;
          unequal-is = e;
          tied = record { path = path; tied = t };
        }

  -- a tie is of kind 0 or 1, a closing of kind 2 or 3
  pub tie-kind : RightTie s listed steps n k → k.kind < 2
  tie-kind R =
      let f = R.formed.kind in
      let u : k.kind ≡ 2 → ⊥ = λ e. elim (subst (TieRight s listed steps n) (round_is k e) R.right) [ ] in
      let v : k.kind ≡ 3 → ⊥ = λ e. elim (subst (TieRight s listed steps n) (entry-is k e) R.right) [ ] in
      omega arith

  pub closing-kind : RightClosing s listed steps n k → (2 ≤ k.kind) × (k.kind < 4)
  closing-kind R =
      let f = R.formed.kind in
      let u : k.kind ≡ 0 → ⊥ = λ e. elim (subst (Closing s listed steps n) (walks-is k e) R.closing) [ ] in
      let v : k.kind ≡ 1 → ⊥ = λ e. elim (subst (Closing s listed steps n) (functions-is k e) R.closing) [ ] in
      omega arith
