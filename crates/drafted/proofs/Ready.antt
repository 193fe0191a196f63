-- How a draft comes together: the ledger is still one in the lists that a table was grown over, and ties are laid behind it. And marks: none at
-- first, and then those of an ending's own steps.
-- Assumes nothing.
use Prim.Native.Nat.{ℕ, zero, suc, ◌≤◌, ◌<◌}
use mathlib.Core.Path.{◌≡◌, refl, sym, ◌∙◌}
use mathlib.Core.Bool.{Bool, true, false, true≢false}
use mathlib.Core.List.{List}
use lib.IntN.{ℤ}
use lib.ListN.{length, set, replicate}
use lib.Seq.{get_or-set_same, get_or-set_other, set_out}
use native.Mathlib.Omega.{arith}
use native.Mathlib.Decide.{ℕ_discrete, dec_lt}
use Rattle.kind.specs.Kind.{Kind}
use Rattle.closure.specs.Walk.{Among}
use Rattle.order.specs.First.{Set, marked}
use Rattle.sheet.specs.Sheet.{Term, unknown, number, shift, apply, apply2, Relation, equal, unequal, at_most, less, Sheet, count_terms, count_entries, term_at, entry_at}
use Rattle.settled.specs.Settled.{zero_level, points}
use Rattle.layers.specs.Bounds.{bounds, Sound}
use Rattle.layers.specs.declared.Bound.{Bound}
use Rattle.layers.proofs.Same.{same-from, same-to, same-code}
use Rattle.layers.proofs.Rests.{sound-fewer}
use Rattle.ledger.specs.Ledger.{TermIn, BoundIn, Ledger}
use Rattle.grown.proofs.Fronts.{among}
use Rattle.grown.specs.Grown.{FunctionTies, Front}
use Rattle.laid.specs.Laid.{Laid}
use Rattle.drafted.specs.Drafted.{Drafted}
use Rattle.drafted.specs.Ending.{MarkedBehind}

module _ {E F : ℕ → ℕ → Kind → Type 0} (A : Among E F) where
  term_in : (z i : ℕ) (t : Term) → TermIn E z i t → TermIn F z i t
  term_in z i unknown h = tt
  term_in z i (number c) (p, q) = (A.more p, A.more q)
  term_in z i (shift a c) (p, q) = (A.more p, A.more q)
  term_in z i (apply symbol a) h = tt
  term_in z i (apply2 symbol a b) h = tt

  bound-in : (r : Relation) (a b : ℕ) (c : ℤ) → BoundIn E r a b c → BoundIn F r a b c
  bound-in equal a b c (p, q) = (A.more p, A.more q)
  bound-in unequal a b c h = tt
  bound-in at_most a b c h = A.more h
  bound-in less a b c h = A.more h

module _ {s : Sheet} {S : Set} {list : List Bound} {old : List ℕ} {list' : List Bound} {names ties labels : List ℕ} {m listed count : ℕ}
    (L : Ledger s S list old m (count_terms s) (count_entries s)) (F : Front m list list')
    (T : FunctionTies s list' m listed) (B : Sound (points s) (bounds listed list'))
    (I : Laid s list' old names ties labels m listed count) where
  ledger : Ledger s S list' names m (count_terms s) (count_entries s)
  ledger =
      record {
        few = L.few;
        sound = sound-fewer (omega (arith, T.listed-is)) B;
        named = λ b l. let kept = F.bounds-kept b l in rw (I.names-kept b l, same-from kept, same-to kept, same-code kept) (L.named b l);
        terms = λ i l. term_in (among F) (zero_level s) i (term_at s i) (L.terms i l);
        entries = λ e l h. bound-in (among F) (entry_at s e).relation (entry_at s e).a (entry_at s e).b (entry_at s e).c (L.entries e l h);
      }

  pub drafted-of : Drafted s S list' names ties labels m listed count
  drafted-of =
      record {
        ledger = ledger;
        functions = T;
        sound = B;
        laid =
            record {
              labelled = I.labelled;
              number = I.number;
              number< = I.number<;
              is-tie = I.is-tie;
              of-functions = I.of-functions;
              by-walks = I.by-walks;
              names-kept = λ e l. refl;
            };
      }

pub none-marked : (n t : ℕ) → marked (replicate n false) t ≡ true → ⊥
none-marked zero t h = true≢false (sym h)
none-marked (suc n) zero h = true≢false (sym h)
none-marked (suc n) (suc t) h = none-marked n t h

pub behind-none : {count : ℕ} {marks : List Bool} → MarkedBehind count marks marks
behind-none = record { stays = λ t h. h; only = λ t l h. h }

pub behind_more : {count : ℕ} {old new : List Bool} (k : ℕ) → count ≤ k → MarkedBehind count old new → MarkedBehind count old (set new k true)
behind_more {new = new} k l M =
    record {
      stays = λ t h. stays t (M.stays t h) (ℕ_discrete t k) (dec_lt k (length new));
      only = λ t t< h. M.only t t< (sym (get_or-set_other new k t true false (omega arith)) ∙ h);
    }
  where
    stays : (t : ℕ) → marked new t ≡ true → Dec (t ≡ k) → Dec (k < length new) → marked (set new k true) t ≡ true
    stays t h (yes e) (yes k<) = rw e (get_or-set_same new k true false k<)
    stays t h (yes e) (no k<) = rw (set_out new k true (omega arith)) h
    stays t h (no e) k< = get_or-set_other new k t true false e ∙ h
