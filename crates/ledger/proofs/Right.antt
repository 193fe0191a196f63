-- The bounds of a term and of a usable entry are what their names say.
-- Assumes nothing.
use Prim.Native.Nat.{ℕ, ◌+◌, ◌*◌, ◌/◌, ◌%◌, ◌≤◌, ◌<◌}
use mathlib.Core.Path.{◌≡◌, refl}
use mathlib.Core.List.{List, [], ◌∷◌}
use lib.ListN.{length, get_or}
use lib.IntN.{ℤ, neg_ℤ}
use native.Mathlib.Omega.{arith}
use Rattle.kind.specs.Kind.{Kind, weak, strict}
use Rattle.order.specs.First.{Set}
use Rattle.sheet.specs.Sheet.{Term, unknown, number, shift, apply, apply2, Relation, equal, unequal, at_most, less, Sheet, count_terms, term_at, entry_at, ArgumentsBelow}
use Rattle.sheet.proofs.Below.{shifted}
use Rattle.settled.specs.Settled.{zero_level, points}
use Rattle.reasons.specs.Step.{entry}
use Rattle.reasons.specs.Rules.{Over, Usable, Gap, an-entry, entry-back, a-number, number-back, a-shift, shift_back, of-equal, of-at-most, of-less}
use Rattle.sketch.specs.Sketch.{kinds_of, bound_named}
use Rattle.ledger.specs.Ledger.{Named}
use Rattle.ledger.specs.Put.{Item, item, two_ways, of_term, of_relation, of_entry}

-- the bound of a name, by its kind and number
name-is : (name kind n : ℕ) → n < 256 → name ≡ kind * 256 + n → bound_named name ≡ get_or (kinds_of n) kind (entry 0)
unfolding bound_named
name-is name kind n l is =
    let number : name % 256 ≡ n = omega arith in
    let kinds : name / 256 ≡ kind = omega arith in
    rw (number, kinds)

-- a bound between points that is what its name says; a list of such; and that they are at most two
pub record Right (s : Sheet) (S : Set) (x : Item) : Type 0 where
  pub from< : x.from < points s
  pub to< : x.to < points s
  pub named : Named s S x.name x.from x.to x.gap

pub data AllRight (s : Sheet) (S : Set) : List Item → Type 0 where
  none_left : AllRight s S []
  one_more : {x : Item} {xs : List Item} → Right s S x → AllRight s S xs → AllRight s S (x ∷ xs)

pub record Rights (s : Sheet) (S : Set) (xs : List Item) : Type 0 where
  pub few : length xs ≤ 2
  pub all : AllRight s S xs

module _ {s : Sheet} {S : Set} where
  none_right : Rights s S []
  none_right = record { few = omega arith; all = none_left }

  one_right : (name kind n : ℕ) {a b : ℕ} {g : Kind} → n < 256 → kind < 4 → name ≡ kind * 256 + n → a < points s → b < points s
      → Over s S [] 0 (get_or (kinds_of n) kind (entry 0)) a b g → Right s S (item a b g name)
  one_right name kind n l k is f t over =
      record { from< = f; to< = t; named = record { no_tie = omega arith; over = rw (name-is name kind n l is) over } }

  just-one : {x : Item} → Right s S x → Rights s S (x ∷ [])
  just-one R = record { few = omega arith; all = one_more R none_left }

  two-right : (name kind n : ℕ) {a b : ℕ} {c : ℤ} → n < 256 → kind < 3 → name ≡ kind * 256 + n → a < points s → b < points s
      → Over s S [] 0 (get_or (kinds_of n) kind (entry 0)) a b (weak c) → Over s S [] 0 (get_or (kinds_of n) (kind + 1) (entry 0)) b a (weak (neg_ℤ c))
      → Rights s S (two_ways a b c name)
  two-right name kind n l k is f t there back =
      record {
        few = omega arith;
        all = one_more (one_right name kind n l (omega arith) is f t there)
            (one_more (one_right (name + 256) (kind + 1) n l (omega arith) (omega arith) t f back) none_left);
      }

  pub term-rights : (t : Term) {i : ℕ} → count_terms s ≤ 256 → i < count_terms s → ArgumentsBelow i t → term_at s i ≡ t
      → Rights s S (of_term (zero_level s) i t)
  term-rights unknown few l below is = none_right
  term-rights (number c) {i} few l below is =
      two-right (512 + i) 2 i (omega arith) (omega arith) (omega arith) (omega arith) (omega arith) (a-number l is) (number-back l is)
  term-rights (shift a c) {i} few l below is =
      let a< = shifted below in
      two-right (512 + i) 2 i (omega arith) (omega arith) (omega arith) (omega arith) (omega arith) (a-shift l is) (shift_back l is)
  term-rights (apply symbol a) few l below is = none_right
  term-rights (apply2 symbol a b) few l below is = none_right

  module _ (e : ℕ) (few : e < 256) (left : (entry_at s e).a < count_terms s) (right : (entry_at s e).b < count_terms s) (U : Usable s S e) where
    relation-rights : (r : Relation) → (entry_at s e).relation ≡ r
        → Rights s S (of_relation r (entry_at s e).a (entry_at s e).b (entry_at s e).c e)
    relation-rights equal is =
        two-right e 0 e few (omega arith) (omega arith) (omega arith) (omega arith) (an-entry U (rw is of-equal)) (entry-back U is)
    relation-rights unequal is = none_right
    relation-rights at_most is =
        let gap : Gap (entry_at s e).relation (entry_at s e).c (weak (entry_at s e).c) = rw is of-at-most in
        just-one (one_right e 0 e few (omega arith) (omega arith) (omega arith) (omega arith) (an-entry U gap))
    relation-rights less is =
        let gap : Gap (entry_at s e).relation (entry_at s e).c (strict (entry_at s e).c) = rw is of-less in
        just-one (one_right e 0 e few (omega arith) (omega arith) (omega arith) (omega arith) (an-entry U gap))

    pub entry-rights : Rights s S (of_entry e (entry_at s e))
    entry-rights = relation-rights (entry_at s e).relation refl
