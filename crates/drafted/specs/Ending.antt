-- The three endings of a draft: the steps behind its ties, what is marked for them before the rest is gathered, and the ≠ entry that closes;
-- and that a name and a walk in memory can be read.
-- Assumes nothing.
use Rattle.std.specs.Prelude.{ℕ, ◌+◌, ◌*◌, ◌%◌, ◌≤◌, ◌<◌, ◌≡◌, Bool, true, List, [], ◌∷◌, ◌++◌, ℤ, get_or}
use Rattle.closure.specs.Closed.{TiedAt}
use Rattle.order.specs.First.{Set, marked}
use Rattle.sheet.specs.Limits.{max_terms}
use Rattle.sheet.specs.Sheet.{unequal, Sheet, count_entries, entry_at}
use Rattle.layers.specs.Bounds.{from_at}
use Rattle.layers.specs.declared.Bound.{Bound}
use Rattle.reasons.specs.Step.{Step, by_walks, closing_walk, closing_entry}
use Rattle.sketch.specs.Sketch.{bound_named, place, ending, walk_at, steps_of}

-- bound e closes a walk under zero
abbrev pub round_steps : (list : List Bound) (names ties walks : List ℕ) (count e : ℕ) → List Step
round_steps list names ties walks count e =
    steps_of names ties walks count ++ closing_walk (from_at list e) (bound_named (get_or names e 0) ∷ walk_at names walks ending) ∷ []

-- a ≠ entry closes, on terms that the ties have in one group
abbrev pub path_steps : (names ties walks : List ℕ) (count x : ℕ) → List Step
path_steps names ties walks count x = steps_of names ties walks count ++ closing_entry x ∷ []

-- and on terms that they don't: these are tied by walks first
abbrev pub tie_steps : (names ties walks : List ℕ) (count a b : ℕ) (c : ℤ) (x : ℕ) → List Step
tie_steps names ties walks count a b c x =
    steps_of names ties walks count ++ by_walks a b c (walk_at names walks ending) (walk_at names walks (ending + 1)) ∷ closing_entry x ∷ []

-- nothing is marked more but numbers from count on
pub record MarkedBehind (count : ℕ) (old new : List Bool) : Type 0 where
  pub stays : (t : ℕ) → marked old t ≡ true → marked new t ≡ true
  pub only : (t : ℕ) → t < count → marked new t ≡ true → marked old t ≡ true

-- x is a ≠ entry of S on terms a and b, which the table ties at exactly its c
pub record BrokenEntry (s : Sheet) (S : Set) (d : ℕ → ℕ → ℕ) (x a b : ℕ) (c : ℤ) : Type 0 where
  pub there : x < count_entries s
  pub on_list : S x ≡ true
  pub is-unequal : (entry_at s x).relation ≡ unequal
  pub a-is : (entry_at s x).a ≡ a
  pub b-is : (entry_at s x).b ≡ b
  pub c-is : (entry_at s x).c ≡ c
  pub tied : TiedAt d a b c

-- a name of a bound, whose tie is one of the first t
pub record NamesBelow (t name : ℕ) : Type 0 where
  pub known : name < 1536
  pub earlier : 1024 ≤ name → name % 256 < t

-- the walk at a place of the walks' memory is short, and its numbers are of listed bounds with such names
pub record Legible (t listed : ℕ) (names walks : List ℕ) (at : ℕ) : Type 0 where
  pub short : get_or walks (at * place) 0 ≤ max_terms
  pub listed< : (x : ℕ) → x < get_or walks (at * place) 0 → get_or walks (at * place + 1 + x) 0 < listed
  pub named : (x : ℕ) → x < get_or walks (at * place) 0 → NamesBelow t (get_or names (get_or walks (at * place + 1 + x) 0) 0)
