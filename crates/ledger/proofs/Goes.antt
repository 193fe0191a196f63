-- A ledger goes on: bounds put behind it that are what their names say leave it a ledger, of one term more or of one entry more.
-- Assumes nothing.
use Prim.Native.Nat.{ℕ, ◌+◌, ◌*◌, ◌≤◌, ◌<◌}
use mathlib.Core.Path.{◌≡◌, refl, sym, ◌∙◌}
use mathlib.Core.Bool.{true, false, true≢false}
use mathlib.Core.List.{List, [], ◌∷◌}
use lib.ListN.{length, get_or}
use lib.IntN.{ℤ, neg_ℤ}
use native.Mathlib.Omega.{arith}
use borrow.Author.Count.{below_more}
use Rattle.kind.specs.Code.{none, Within}
use Rattle.kind.specs.Kind.{Kind, weak, kind_of}
use Rattle.closure.specs.Table.{step}
use Rattle.order.specs.First.{Set}
use Rattle.sheet.specs.Sheet.{Term, unknown, number, shift, apply, apply2, Relation, equal, unequal, at_most, less, Entry, Sheet, count_terms, count_entries, term_at, entry_at, WellFormed}
use Rattle.settled.specs.Settled.{zero_level, points}
use Rattle.layers.specs.Bounds.{bounds, from_at, to_at, code_at, Listed}
use Rattle.layers.specs.declared.Bound.{Bound}
use Rattle.layers.proofs.Same.{same-from, same-to, same-code}
use Rattle.jotted.specs.Jotted.{most}
use Rattle.ledger.specs.Ledger.{TermIn, BoundIn, EntryIn, Named, Ledger}
use Rattle.ledger.specs.Put.{Item, item, two_ways, of_term, of_relation, of_entry, At, Stand, end, next, Put}
use Rattle.ledger.proofs.Right.{Right, AllRight, none_left, one_more, Rights, term-rights, entry-rights}

-- the bound that stands at a place is of a sheet's size, and what its name says
record Stands (s : Sheet) (S : Set) (list : List Bound) (names : List ℕ) (b : ℕ) : Type 0 where
  from< : from_at list b < points s
  to< : to_at list b < points s
  there : code_at list b < none
  near : Within step (code_at list b)
  named : Named s S (get_or names b 0) (from_at list b) (to_at list b) (kind_of (code_at list b))

module _ {s : Sheet} {S : Set} {list : List Bound} {names : List ℕ} where
  at_right : {m : ℕ} {x : Item} → At list names m x → Right s S x → Stands s S list names m
  at_right A R =
      record {
        from< = rw A.from_is R.from<;
        to< = rw A.to_is R.to<;
        there = A.there;
        near = A.near;
        named = rw (A.from_is, A.to_is, A.gap_is, A.name-is) R.named;
      }

  all-stand : {m : ℕ} {xs : List Item} → ((b : ℕ) → b < m → Stands s S list names b) → Stand list names m xs
      → AllRight s S xs → (b : ℕ) → b < m + length xs → Stands s S list names b
  all-stand first end none_left b l = first b (omega arith)
  all-stand first (next A T) (one_more R Q) b l =
      all-stand (below_more (Stands s S list names) _ first (at_right A R)) T Q b (omega arith)

-- the bounds of a term and of a relation that are among E are among F, which has all of E
term_in : {E F : ℕ → ℕ → Kind → Type 0} → ((a b : ℕ) (g : Kind) → E a b g → F a b g) → (z i : ℕ) (t : Term) → TermIn E z i t
    → TermIn F z i t
term_in f z i unknown h = tt
term_in f z i (number c) h = (f _ _ _ h.0, f _ _ _ h.1)
term_in f z i (shift a c) h = (f _ _ _ h.0, f _ _ _ h.1)
term_in f z i (apply symbol a) h = tt
term_in f z i (apply2 symbol a b) h = tt

bound-in : {E F : ℕ → ℕ → Kind → Type 0} → ((a b : ℕ) (g : Kind) → E a b g → F a b g) → (r : Relation) (a b : ℕ) (c : ℤ)
    → BoundIn E r a b c → BoundIn F r a b c
bound-in f equal a b c h = (f _ _ _ h.0, f _ _ _ h.1)
bound-in f unequal a b c h = tt
bound-in f at_most a b c h = f _ _ _ h
bound-in f less a b c h = f _ _ _ h

-- a bound that stands at a place is listed
at_listed : {list : List Bound} {names : List ℕ} {r k : ℕ} {x : Item} → At list names k x → k < r
    → Listed (bounds r list) x.from x.to x.gap
at_listed {k = k} A l = record { number = k; there = l; starts = A.from_is; ends = A.to_is; gap = A.gap_is }

one-listed : {list : List Bound} {names : List ℕ} {m r a b name : ℕ} {g : Kind} → Stand list names m (item a b g name ∷ []) → m + 1 ≤ r
    → Listed (bounds r list) a b g
one-listed (next A end) l = at_listed A (omega arith)

two-listed : {list : List Bound} {names : List ℕ} {m r a b name : ℕ} {c : ℤ} → Stand list names m (two_ways a b c name) → m + 2 ≤ r
    → Listed (bounds r list) a b (weak c) × Listed (bounds r list) b a (weak (neg_ℤ c))
two-listed (next A (next B end)) l = (at_listed A (omega arith), at_listed B (omega arith))

module _ {list : List Bound} {names : List ℕ} {list' : List Bound} {names' : List ℕ} {m r : ℕ} where
  -- what was listed still is
  still-listed : {xs : List Item} → Put list names list' names' m xs r → (a b : ℕ) (g : Kind)
      → Listed (bounds m list) a b g → Listed (bounds r list') a b g
  still-listed P a b g L =
      record {
        number = L.number;
        there = omega (arith, P.count, L.there);
        starts = same-from (P.bounds-kept _ L.there) ∙ L.starts;
        ends = same-to (P.bounds-kept _ L.there) ∙ L.ends;
        gap = rw (same-code (P.bounds-kept _ L.there)) L.gap;
      }

  -- and what is put is
  term-listed : (z i : ℕ) (t : Term) → Put list names list' names' m (of_term z i t) r
      → TermIn (Listed (bounds r list')) z i t
  term-listed z i unknown P = tt
  term-listed z i (number c) P = two-listed P.stand (omega (arith, P.count))
  term-listed z i (shift a c) P = two-listed P.stand (omega (arith, P.count))
  term-listed z i (apply symbol a) P = tt
  term-listed z i (apply2 symbol a b) P = tt

  relation-listed : (x : Relation) (a b : ℕ) (c : ℤ) (e : ℕ) → Put list names list' names' m (of_relation x a b c e) r
      → BoundIn (Listed (bounds r list')) x a b c
  relation-listed equal a b c e P = two-listed P.stand (omega (arith, P.count))
  relation-listed unequal a b c e P = tt
  relation-listed at_most a b c e P = one-listed P.stand (omega (arith, P.count))
  relation-listed less a b c e P = one-listed P.stand (omega (arith, P.count))

  module _ {s : Sheet} {S : Set} {i e : ℕ} (L : Ledger s S list names m i e)
      (all : length list' ≡ most) (within : i + e ≤ 256) where
    -- the bounds before, and those put
    stands : {xs : List Item} → Put list names list' names' m xs r → AllRight s S xs → (b : ℕ) → b < r
        → Stands s S list' names' b
    stands P R b l =
        let first : (k : ℕ) → k < m → Stands s S list' names' k =
        λ k h.
        record {
          from< = rw (same-from (P.bounds-kept k h)) (L.sound.from< k h);
          to< = rw (same-to (P.bounds-kept k h)) (L.sound.to< k h);
          there = rw (same-code (P.bounds-kept k h)) (L.sound.there k h);
          near = rw (same-code (P.bounds-kept k h)) (L.sound.near k h);
          named = let kept = P.bounds-kept k h in rw (P.names-kept k h, same-from kept, same-to kept, same-code kept) (L.named k h);
        }
        in
        all-stand first P.stand R b (omega (arith, P.count))

    -- so with i' terms and e' entries, where all their bounds are listed
    goes_on : {i' e' : ℕ} {xs : List Item} → Put list names list' names' m xs r → Rights s S xs → i + e + 1 ≤ i' + e'
        → ((k : ℕ) → k < i' → TermIn (Listed (bounds r list')) (zero_level s) k (term_at s k))
        → ((k : ℕ) → k < e' → S k ≡ true → EntryIn (Listed (bounds r list')) (entry_at s k))
        → Ledger s S list' names' r i' e'
    goes_on P R more terms entries =
        let at = stands P R.all in
        let r≤ : r ≤ 2 * i + 2 * e + 2 = omega (arith, P.count, R.few, L.few) in
        record {
          few = omega arith;
          sound = record {
            few = omega arith;
            all_bounds = omega (arith, all);
            from< = λ k l. (at k l).from<;
            to< = λ k l. (at k l).to<;
            there = λ k l. (at k l).there;
            near = λ k l. (at k l).near;
          };
          named = λ k l. (at k l).named;
          terms = terms;
          entries = entries;
        }

    pub term-more : {z : ℕ} {t : Term} → WellFormed s → i < count_terms s → z ≡ count_terms s → t ≡ term_at s i
        → Put list names list' names' m (of_term z i t) r → Ledger s S list' names' r (i + 1) e
    term-more {z} {t} wf l zero is P =
        let Q : Put list names list' names' m (of_term (zero_level s) i (term_at s i)) r = rw (zero, is) at P in
        goes_on Q (term-rights (term_at s i) (omega (arith, wf.terms)) l (wf.arguments i l) refl) (omega arith)
        (below_more (λ k. TermIn (Listed (bounds r list')) (zero_level s) k (term_at s k)) i
        (λ k h. term_in (still-listed Q) (zero_level s) k (term_at s k) (L.terms k h)) (term-listed (zero_level s) i (term_at s i) Q))
        (λ k h on. bound-in (still-listed Q) (entry_at s k).relation (entry_at s k).a (entry_at s k).b (entry_at s k).c (L.entries k h on))

    pub entry_more : {x : Entry} → WellFormed s → e < count_entries s → S e ≡ true → x ≡ entry_at s e
        → Put list names list' names' m (of_entry e x) r → Ledger s S list' names' r i (e + 1)
    entry_more {x} wf l on is P =
        let Q : Put list names list' names' m (of_entry e (entry_at s e)) r = rw is at P in
        goes_on Q (entry-rights e (omega (arith, wf.entries)) (wf.left e l) (wf.right e l) (record { there = l; on_list = on })) (omega arith)
        (λ k h. term_in (still-listed Q) (zero_level s) k (term_at s k) (L.terms k h))
        (below_more (λ k. S k ≡ true → EntryIn (Listed (bounds r list')) (entry_at s k)) e
        (λ k h u. bound-in (still-listed Q) (entry_at s k).relation (entry_at s k).a (entry_at s k).b (entry_at s k).c (L.entries k h u))
        (λ u. relation-listed (entry_at s e).relation (entry_at s e).a (entry_at s e).b (entry_at s e).c e Q))

module _ {s : Sheet} {S : Set} {list : List Bound} {names : List ℕ} where
  -- an entry off the list has no bounds
  pub entry-skipped : {m i e : ℕ} → S e ≡ false → Ledger s S list names m i e → Ledger s S list names m i (e + 1)
  entry-skipped {e = e} off L =
      record {
        few = omega (arith, L.few);
        sound = L.sound;
        named = L.named;
        terms = L.terms;
        entries = below_more (λ k. S k ≡ true → EntryIn (Listed (bounds _ list)) (entry_at s k)) e L.entries
            (λ on. absurd (true≢false (sym on ∙ off)));
      }

  pub nothing_yet : Ledger s S list names 0 0 0
  nothing_yet =
      record {
        few = omega arith;
        sound = record {
          few = omega arith;
          all_bounds = omega arith;
          from< = λ k l. absurd (omega arith);
          to< = λ k l. absurd (omega arith);
          there = λ k l. absurd (omega arith);
          near = λ k l. absurd (omega arith);
        };
        named = λ k l. absurd (omega arith);
        terms = λ k l. absurd (omega arith);
        entries = λ k l on. absurd (omega arith);
      }
