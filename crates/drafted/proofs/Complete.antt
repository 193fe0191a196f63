-- A saturated table over a ledger's bounds, with ties of functions behind them, is settled where no ≠ entry is broken: so a list that clashes
-- breaks one.
-- Assumes nothing.
use Prim.Native.Nat.{ℕ, ◌≤◌, ◌<◌}
use mathlib.Core.Path.{refl}
use mathlib.Core.List.{List}
use lib.IntN.{ℤ, neg_ℤ}
use native.Mathlib.Omega.{arith}
use Rattle.whole.specs.Whole.{plus, minus}
use Rattle.whole.proofs.Parts.{neg-plus, neg-minus}
use Rattle.kind.specs.Code.{none}
use Rattle.kind.specs.Kind.{Kind, weak, strict, kind_of}
use Rattle.kind.proofs.Codes.{there}
use Rattle.kind.proofs.Kind.{kind-none}
use Rattle.closure.specs.Closed.{AtMost, Below, TiedAt}
use Rattle.closure.specs.Walk.{Tight, Among}
use Rattle.closure.specs.Table.{Held}
use Rattle.closure.proofs.Order.{Is, plain, under, line, of_code, halved, none-tight}
use Rattle.order.specs.First.{Set}
use Rattle.sheet.specs.Sheet.{Term, unknown, number, shift, apply, apply2, Relation, equal, unequal, at_most, less, Sheet, count_terms, count_entries, term_at, entry_at, WellFormed}
use Rattle.meaning.specs.Meaning.{Clashes}
use Rattle.laid.proofs.Tables.{listed_more}
use Rattle.settled.specs.Settled.{zero_level, points, TermHeld, BoundHeld, Apart, Settled}
use Rattle.settled.proofs.Meet.{settled-meets}
use Rattle.layers.specs.Bounds.{bounds, Listed}
use Rattle.layers.specs.declared.Bound.{Bound}
use Rattle.ledger.specs.Ledger.{TermIn, BoundIn, Ledger}
use Rattle.grown.specs.Grown.{Grew}

-- a cell that is as tight as a gap that is there is there
tight-there : {k : Kind} {n : ℕ} {c : ℤ} (g : ℕ) → Is k n c → Tight (kind_of g) k → g < none
tight-there g i h = there g (λ p. p) (λ p. absurd (none-tight i (rw (kind-none g p) at h)))

-- bounds E that a table holds
module _ {N : ℕ} {E : ℕ → ℕ → Kind → Type 0} {d : ℕ → ℕ → ℕ} (A : Among E (Held N d)) where
  at-most : {i j : ℕ} (c : ℤ) → E i j (weak c) → AtMost d i j (plus c) (minus c)
  at-most {i} {j} c e =
      let h = (A.more e).held in
      let p = tight-there (d i j) plain h in
      record { there = p; bound = omega (arith, (line (of_code (d i j) p) plain).0 h, halved (d i j)) }

  below : {i j : ℕ} (c : ℤ) → E i j (strict c) → Below d i j (plus c) (minus c)
  below {i} {j} c e =
      let h = (A.more e).held in
      let p = tight-there (d i j) under h in
      record { there = p; bound = omega (arith, (line (of_code (d i j) p) under).0 h, halved (d i j)) }

  tied : {i j : ℕ} (c : ℤ) → E i j (weak c) → E j i (weak (neg_ℤ c)) → TiedAt d i j c
  tied c p q = record { to = at-most c p; back = rw (neg-plus, neg-minus) at (at-most (neg_ℤ c) q) }

  term-held : (z i : ℕ) (t : Term) → TermIn E z i t → TermHeld d z i t
  term-held z i unknown h = tt
  term-held z i (number c) (p, q) = tied c p q
  term-held z i (shift a c) (p, q) = tied c p q
  term-held z i (apply symbol a) h = tt
  term-held z i (apply2 symbol a b) h = tt

  entry-held : (r : Relation) (a b : ℕ) (c : ℤ) → BoundIn E r a b c → BoundHeld d r a b c
  entry-held equal a b c (p, q) = tied c p q
  entry-held unequal a b c h = tt
  entry-held at_most a b c h = at-most c h
  entry-held less a b c h = below c h

module _ {s : Sheet} {S : Set} {list : List Bound} {names : List ℕ} {m listed : ℕ} {d : ℕ → ℕ → ℕ} (W : WellFormed s)
    (L : Ledger s S list names m (count_terms s) (count_entries s)) (G : Grew s list m d listed listed) where
  settled : Apart s S d → Settled s S d
  settled far =
      let l : m ≤ listed = omega (arith, G.ties.listed-is) in
      let A : Among (Listed (bounds m list)) (Held (points s) d) = record { more = λ e. G.exact.held.more ((listed_more l).more e) } in
      record {
        closed = G.exact.table.closed;
        terms = λ i l. term-held A (zero_level s) i (term_at s i) (L.terms i l);
        entries = λ e l h. entry-held A (entry_at s e).relation (entry_at s e).a (entry_at s e).b (entry_at s e).c (L.entries e l h);
        functions = G.saturated refl;
        apart = far;
      }

  pub some-broken : Clashes s S → Apart s S d → ⊥
  some-broken clash far = clash (record { D = _; n = _; meet = settled-meets s S d W (settled far) })
