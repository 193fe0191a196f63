-- Bounds with their names, which of them a term and an entry have, and that they are put into two lists one behind the other.
-- Assumes nothing.
use Rattle.std.specs.Prelude.{ℕ, ◌+◌, ◌<◌, ◌≡◌, List, [], ◌∷◌, length, get_or, ℤ, neg_ℤ}
use Rattle.kind.specs.Code.{none, Within}
use Rattle.kind.specs.Kind.{Kind, weak, strict, kind_of}
use Rattle.closure.specs.Table.{step}
use Rattle.layers.specs.Bounds.{nowhere, from_at, to_at, code_at}
use Rattle.layers.specs.declared.Bound.{Bound}
use Rattle.sheet.specs.Sheet.{Term, unknown, number, shift, apply, apply2, Relation, equal, unequal, at_most, less, Entry}

-- a bound from a point to a point, with its gap and its name
pub record Item : Type 0 where
  pub from : ℕ
  pub to : ℕ
  pub gap : Kind
  pub name : ℕ

abbrev pub item : (a b : ℕ) → Kind → ℕ → Item
item a b g name = record { from = a; to = b; gap = g; name = name }

-- a = b + c: there, and back under the name that is 256 more
abbrev pub two_ways : (a b : ℕ) → ℤ → ℕ → List Item
two_ways a b c name = item a b (weak c) name ∷ item b a (weak (neg_ℤ c)) (name + 256) ∷ []

-- those of term i, where z is the zero level, named 512 + i, and those of entry e, named e
abbrev pub of_term : (z i : ℕ) → Term → List Item
of_term z i unknown = []
of_term z i (number c) = two_ways i z c (512 + i)
of_term z i (shift a c) = two_ways i a c (512 + i)
of_term z i (apply symbol a) = []
of_term z i (apply2 symbol a b) = []

abbrev pub of_relation : Relation → (a b : ℕ) → ℤ → ℕ → List Item
of_relation equal a b c name = two_ways a b c name
of_relation unequal a b c name = []
of_relation at_most a b c name = item a b (weak c) name ∷ []
of_relation less a b c name = item a b (strict c) name ∷ []

abbrev pub of_entry : ℕ → Entry → List Item
of_entry e x = of_relation x.relation x.a x.b x.c e

-- the bound of a sheet's size stands at k, and bounds stand from m on
pub record At (list : List Bound) (names : List ℕ) (k : ℕ) (x : Item) : Type 0 where
  pub from_is : from_at list k ≡ x.from
  pub to_is : to_at list k ≡ x.to
  pub gap_is : kind_of (code_at list k) ≡ x.gap
  pub there : code_at list k < none
  pub near : Within step (code_at list k)
  pub name-is : get_or names k 0 ≡ x.name

pub data Stand (list : List Bound) (names : List ℕ) : ℕ → List Item → Type 0 where
  end : {m : ℕ} → Stand list names m []
  next : {m : ℕ} {x : Item} {xs : List Item} → At list names m x → Stand list names (m + 1) xs →
      Stand list names m (x ∷ xs)

-- behind the first m, which are as they were, come these, and then there are r
pub record Put (list : List Bound) (names : List ℕ) (list' : List Bound) (names' : List ℕ) (m : ℕ) (items : List Item) (r : ℕ) : Type 0 where
  pub count : r ≡ m + length items
  pub stand : Stand list' names' m items
  pub bounds-kept : (k : ℕ) → k < m → get_or list' k nowhere ≡ get_or list k nowhere
  pub names-kept : (k : ℕ) → k < m → get_or names' k 0 ≡ get_or names k 0
