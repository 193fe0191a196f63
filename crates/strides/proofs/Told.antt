-- A walk over legs is a chain of bounds with the same total, and the other way round; how such legs start, and one tie more.
-- Assumes nothing.
use Prim.Native.Nat.{ℕ, zero, suc, ◌+◌, ◌≤◌, ◌<◌}
use mathlib.Core.Path.{◌≡◌, refl, sym, ◌∙◌, ap, subst}
use mathlib.Core.Bool.{Bool}
use mathlib.Core.Logic.{◌≢◌}
use mathlib.Core.List.{List, [], ◌∷◌}
use lib.ListN.{length, get_or, take, set, length-set}
use lib.Seq.{get_or-set_same, get_or-set_other}
use lib.IntN.{ℤ, pos, +ℤ_idl}
use native.Mathlib.Omega.{arith}
use native.Mathlib.Decide.{ℕ_discrete}
use Rattle.big.specs.Big.{Bytes, complement_of}
use Rattle.kind.specs.Kind.{Kind}
use Rattle.order.specs.First.{Set}
use Rattle.sheet.specs.Sheet.{Sheet, WellFormed}
use Rattle.sheet.specs.Decode.{each, sheet_of}
use Rattle.reasons.specs.Step.{Bound, Step, step_at}
use Rattle.reasons.specs.Rules.{Ties, TieWithin, Chain}
use Rattle.reasons.specs.Rules.Chain.{stop, step}
use Rattle.stated.specs.Said.{walk_of, WalkFormed}
use Rattle.legs.specs.Legs.{gap_for, word_of, either_way, term_place, tie_place, Laid, Goes, start_at}
use Rattle.legs.specs.Legs.Goes.{stays, on}
use Rattle.legs.specs.declared.Stand.{Stand}
use Rattle.strides.specs.Trodden.{SmallSheet, TieLaid, Trodden, kind_for, Comes, Chained, Trod}
use Rattle.strides.proofs.Small.{SmallTerm, small-term, small-entry}
use Rattle.strides.proofs.Stride.{Adds, adds_none, adds-more}
use Rattle.strides.proofs.Bound.{over-paced, further-over}

-- from a start, what is added is what it comes to
adds-comes : {i : ℕ} {e : Stand} {total : Kind} {m : ℕ} → Adds (start_at i) e total m → m ≤ 129 → Comes e total
unfolding complement_of
adds-comes A l = record {
  sum = A.sum;
  total-is = A.total-is ∙ ap (λ (b : Bool). kind_for b A.sum) (sym A.strict-is);
  gap_is = A.gap_is (pos 0) (omega arith) (omega arith) refl ∙ ap gap_for (+ℤ_idl A.sum);
  up = omega arith;
  down = omega arith;
}

-- the bounds of a walk are formed
pub goes-formed : {legs : List ℕ} {x y : Stand} (count : ℕ) (bounds : List ℕ) → count ≤ length bounds → Goes legs (take count bounds) x y →
    WalkFormed count bounds
goes-formed zero bounds l g x x< = absurd (omega arith)
goes-formed (suc count) [] l g x x< = absurd (omega arith)
goes-formed (suc count) (w ∷ bounds) l (on h f g) zero x< = h
goes-formed (suc count) (w ∷ bounds) l (on h f g) (suc x) x< = goes-formed count bounds (omega arith) g x (omega arith)

module _ {s : Sheet} {listed : Set} {steps : List Step} {n : ℕ} {legs : List ℕ}
    (wf : WellFormed s) (small : SmallSheet s) (T : Trodden s listed steps n legs)
  where
    -- a walk from any stand, as a chain that adds to it
    record Chains (walk : List Bound) (x y : Stand) (m : ℕ) : Type 0 where
      total : Kind
      chain : Chain s listed steps n walk x.at y.at total
      adds : Adds x y total m

    goes-chains : {x y : Stand} (count : ℕ) (bounds : List ℕ) → count ≤ length bounds → Goes legs (take count bounds) x y →
        Chains (walk_of count bounds) x y count
    unfolding each
    goes-chains zero bounds l stays = record { total = _; chain = stop; adds = adds_none }
    goes-chains (suc count) [] l g = absurd (omega arith)
    goes-chains (suc count) (w ∷ bounds) l (on h f g) =
        let O = further-over wf small T h f in
        let C = goes-chains count bounds (omega arith) g in
        record { total = _; chain = step O.over C.chain; adds = adds-more O.adds C.adds }

    -- and a chain, as a walk
    record Treads (count : ℕ) (bounds : List ℕ) (x : Stand) (k : ℕ) (total : Kind) : Type 0 where
      end : Stand
      goes : Goes legs (take count bounds) x end
      at-is : end.at ≡ k
      adds : Adds x end total count

    chain-treads : {k : ℕ} {total : Kind} (x : Stand) (count : ℕ) (bounds : List ℕ) → count ≤ length bounds → WalkFormed count bounds →
        Chain s listed steps n (walk_of count bounds) x.at k total → Treads count bounds x k total
    unfolding each
    chain-treads x zero bounds l f stop = record { end = x; goes = stays; at-is = refl; adds = adds_none }
    chain-treads x (suc count) [] l f c = absurd (omega arith)
    chain-treads {k} x (suc count) (w ∷ bounds) l f (step {g = g} {t = t} o c) =
        let P = over-paced wf small T x (f 0 (omega arith)) o in
        let R = chain-treads {k = k} {total = t} P.end count bounds (omega arith) (λ y y<. f (suc y) (omega arith)) (rw (sym P.at-is) at c) in
        record { end = R.end; goes = on (f 0 (omega arith)) P.further R.goes; at-is = R.at-is; adds = adds-more P.adds R.adds }

pub goes-chain : {s : Sheet} {listed : Set} {steps : List Step} {n : ℕ} {legs : List ℕ} → WellFormed s → SmallSheet s →
    Trodden s listed steps n legs → n ≤ 256 → (count : ℕ) (bounds : List ℕ) → count ≤ 129 → count ≤ length bounds → (i : ℕ) (e : Stand) →
    Goes legs (take count bounds) (start_at i) e → Chained s listed steps n count bounds i e
goes-chain wf small T _ count bounds few l i e g =
    let C = goes-chains wf small T count bounds l g in
    record { total = C.total; formed = goes-formed count bounds l g; chain = C.chain; comes = adds-comes C.adds few }

pub chain-goes : {s : Sheet} {listed : Set} {steps : List Step} {n : ℕ} {legs : List ℕ} → WellFormed s → SmallSheet s →
    Trodden s listed steps n legs → n ≤ 256 → (count : ℕ) (bounds : List ℕ) → count ≤ 129 → count ≤ length bounds → (i k : ℕ) (total : Kind) →
    WalkFormed count bounds → Chain s listed steps n (walk_of count bounds) i k total → Trod legs count bounds i k total
chain-goes wf small T _ count bounds few l i k total f c =
    let R = chain-treads wf small T (start_at i) count bounds l f c in
    record { end = R.end; goes = R.goes; at-is = R.at-is; comes = adds-comes R.adds few }

-- at the start there is no tie
pub trodden-start : {s : Sheet} {listed : Set} {steps : List Step} {old legs : List ℕ} → length old ≡ 768 → ((k : ℕ) → get_or old k 0 ≡ 0) →
    WellFormed s → Laid s listed old legs → Trodden s listed steps 0 legs
trodden-start size zeros wf L = record {
  size = L.size ∙ size;
  entries_fit = omega (arith, wf.entries);
  terms-fit = omega (arith, wf.terms);
  entries = L.entries;
  no-entry = λ e p q. L.between e p q ∙ zeros e;
  terms = L.terms;
  no-term = λ i p q. L.rest (term_place + i) (omega arith) ∙ zeros (term_place + i);
  ties = λ t p. absurd (omega arith);
  no_tie = λ t p q. L.rest (tie_place + t) (omega (arith, wf.terms)) ∙ zeros (tie_place + t);
}

-- and with each tie one leg more
pub trodden-tie : {s : Sheet} {listed : Set} {steps : List Step} {n : ℕ} {legs : List ℕ} {a b : ℕ} {c : ℤ} → Trodden s listed steps n legs → n < 256 →
    Ties (step_at steps n) a b c → TieWithin c → a < 256 → b < 256 →
    Trodden s listed steps (suc n) (set legs (tie_place + n) (word_of either_way (gap_for c) a b))
trodden-tie {steps = steps} {n} {legs} {a} {b} {c} T n< ties within a< b< = record {
  size = simp length-set T.size;
  entries_fit = T.entries_fit;
  terms-fit = T.terms-fit;
  entries = λ e p. other e (omega arith) ∙ T.entries e p;
  no-entry = λ e p q. other e (omega arith) ∙ T.no-entry e p q;
  terms = λ i p. other (term_place + i) (omega arith) ∙ T.terms i p;
  no-term = λ i p q. other (term_place + i) (omega arith) ∙ T.no-term i p q;
  ties = λ t p. laid t p (ℕ_discrete t n);
  no_tie = λ t p q. other (tie_place + t) (omega arith) ∙ T.no_tie t (omega arith) q;
}
  where
    leg : ℕ
    leg = word_of either_way (gap_for c) a b

    other : (k : ℕ) → k ≢ tie_place + n → get_or (set legs (tie_place + n) leg) k 0 ≡ get_or legs k 0
    other k = get_or-set_other legs (tie_place + n) k leg 0

    laid : (t : ℕ) → t < suc n → Dec (t ≡ n) → TieLaid steps (set legs (tie_place + n) leg) t
    laid t p (yes e) =
        rw e (record {
          a = a;
          b = b;
          c = c;
          ties = ties;
          within = within;
          left = a<;
          right = b<;
          leg = get_or-set_same legs (tie_place + n) leg 0 (omega (arith, T.size));
        })
    laid t p (no e) =
        let L = T.ties t (omega arith) in
        record {
          a = L.a;
          b = L.b;
          c = L.c;
          ties = L.ties;
          within = L.within;
          left = L.left;
          right = L.right;
          leg = other (tie_place + t) (omega arith) ∙ L.leg;
        }

-- a sheet that bytes decode to has numbers of two bytes
pub small-sheet : (b : List ℕ) → Bytes b → SmallSheet (sheet_of b)
small-sheet b B = record {
  numbers = λ i c e. subst SmallTerm e (small-term b B i);
  shifts = λ i a c e. subst SmallTerm e (small-term b B i);
  entries = small-entry b B;
}
