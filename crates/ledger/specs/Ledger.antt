-- Bounds in a list, each with a name: which are listed, and that each is what its name says.
-- Assumes nothing.
use Rattle.std.specs.Prelude.{ℕ, ◌+◌, ◌*◌, ◌≤◌, ◌<◌, ◌≡◌, true, List, [], get_or, ℤ, neg_ℤ}
use Rattle.kind.specs.Kind.{Kind, weak, strict, kind_of}
use Rattle.order.specs.First.{Set}
use Rattle.sheet.specs.Sheet.{Term, unknown, number, shift, apply, apply2, Relation, equal, unequal, at_most, less, Entry, Sheet, term_at, entry_at}
use Rattle.settled.specs.Settled.{zero_level, points}
use Rattle.layers.specs.Bounds.{bounds, from_at, to_at, code_at, Sound, Listed}
use Rattle.layers.specs.declared.Bound.{Bound}
use Rattle.reasons.specs.Rules.{Over}
use Rattle.sketch.specs.Sketch.{bound_named}

-- the bounds of a term and of an entry are among E
abbrev pub TermIn : (ℕ → ℕ → Kind → Type 0) → (z i : ℕ) → Term → Type 0
TermIn E z i unknown = Unit
TermIn E z i (number c) = E i z (weak c) × E z i (weak (neg_ℤ c))
TermIn E z i (shift a c) = E i a (weak c) × E a i (weak (neg_ℤ c))
TermIn E z i (apply symbol a) = Unit
TermIn E z i (apply2 symbol a b) = Unit

abbrev pub BoundIn : (ℕ → ℕ → Kind → Type 0) → Relation → (a b : ℕ) → ℤ → Type 0
BoundIn E equal a b c = E a b (weak c) × E b a (weak (neg_ℤ c))
BoundIn E unequal a b c = Unit
BoundIn E at_most a b c = E a b (weak c)
BoundIn E less a b c = E a b (strict c)

abbrev pub EntryIn : (ℕ → ℕ → Kind → Type 0) → Entry → Type 0
EntryIn E e = BoundIn E e.relation e.a e.b e.c

-- the name of a term's or an entry's bound from i to j with the gap g
pub record Named (s : Sheet) (S : Set) (name i j : ℕ) (g : Kind) : Type 0 where
  pub no_tie : name < 1024
  pub over : Over s S [] 0 (bound_named name) i j g

-- m bounds: those of the first i terms, and of the first e entries where S has them; each is what its name says
pub record Ledger (s : Sheet) (S : Set) (list : List Bound) (names : List ℕ) (m i e : ℕ) : Type 0 where
  pub few : m ≤ 2 * i + 2 * e
  pub sound : Sound (points s) (bounds m list)
  pub named : (b : ℕ) → b < m → Named s S (get_or names b 0) (from_at list b) (to_at list b) (kind_of (code_at list b))
  pub terms : (k : ℕ) → k < i → TermIn (Listed (bounds m list)) (zero_level s) k (term_at s k)
  pub entries : (k : ℕ) → k < e → S k ≡ true → EntryIn (Listed (bounds m list)) (entry_at s k)
