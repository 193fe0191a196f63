-- What a right step is built on: its own entries, and the ties that it rests on.
-- Assumes nothing.
use Rattle.std.specs.Prelude.{ℕ, ◌%◌, ◌≤◌, ◌<◌, ◌≡◌, ◌⊎◌, ◌↔◌, Bool, true, false, ◌||◌, List, length, get_or}
use Rattle.order.specs.First.{Set, marked}
use Rattle.sheet.specs.Decode.{Sized, sheet_of}
use Rattle.sheet.specs.Sheet.{Term, unknown, number, shift, apply, apply2, Sheet, WellFormed}
use Rattle.reasons.specs.Step.{Step, step_at}
use Rattle.reasons.specs.Rules.{TieRight, Closing}
use Rattle.reasons.specs.Reason.{Rests, Uses}
use Rattle.stated.specs.Said.{step_of, Formed}
use Rattle.stated.specs.declared.Step.{Step as Record}
use Rattle.sets.specs.declared.Ties.{Ties}
use Rattle.sets.specs.Sets.{has}
use Rattle.links.specs.Links.{Rising}
use Rattle.routes.specs.Routes.{PathSays}
use Rattle.linked.specs.Known.{Known}
use Rattle.traced.specs.Traced.{Traced}

-- what is lent: a sheet that isn't sent back, and memory of its size
pub record Lent (sheet links paths : List ℕ) : Type 0 where
  pub sized : Sized sheet
  pub well-formed : WellFormed (sheet_of sheet)
  pub links-size : length links ≡ 256
  pub rising : Rising links
  pub paths-size : length paths ≡ 512

-- step n, of a record, is right, and all ties before it are known; so may be some behind it
pub record Stands (s : Sheet) (listed : Set) (steps : List Step) (m : ℕ) (legs links paths : List ℕ) (n : ℕ) (r : Record) : Type 0 where
  pub known : Known s listed steps m legs links
  pub traced : Traced steps links paths
  pub among : n ≤ m
  pub is : step_at steps n ≡ step_of r
  pub formed : Formed r
  pub right : TieRight s listed steps n (step_of r) ⊎ Closing s listed steps n (step_of r)

-- as a step of some reason
pub record Standing (sheet links paths : List ℕ) (r : Record) : Type 0 where
  pub listed : Set
  pub steps : List Step
  pub m : ℕ
  pub legs : List ℕ
  pub n : ℕ
  pub stands : Stands (sheet_of sheet) listed steps m legs links paths n r

-- the step's own entries are marked, and no others than were before
pub record OwnMarked (r : Record) (old new : List Bool) : Type 0 where
  pub size : length new ≡ length old
  pub own : (e : ℕ) → marked new e ≡ true ↔ (marked old e ≡ true) ⊎ Uses (step_of r) e

-- the set has the ties that the step rests on
pub record RestsOn (s : Sheet) (steps : List Step) (n : ℕ) (r : Record) (ties : Ties) : Type 0 where
  pub exactly : (t : ℕ) → has ties t ≡ true ↔ Rests s steps n (step_of r) t

-- names of bounds by their sorts: of entries, either way, and of ties
abbrev pub OfEntry : ℕ → Type 0
OfEntry name = name < 512

abbrev pub OfTie : ℕ → Type 0
OfTie name = 1024 ≤ name

-- one of the first `count` names of a row is of the sort, and has the number k
pub record Among (Sort : ℕ → Type 0) (count : ℕ) (bounds : List ℕ) (k : ℕ) : Type 0 where
  pub at : ℕ
  pub within : at < count
  pub sort : Sort (get_or bounds at 0)
  pub number : get_or bounds at 0 % 256 ≡ k

-- what E holds of is marked, and nothing else than was before
pub record Added (E : ℕ → Type 0) (old new : List Bool) : Type 0 where
  pub size : length new ≡ length old
  pub own : (e : ℕ) → marked new e ≡ true ↔ (marked old e ≡ true) ⊎ E e

-- the set has the ties of a walk
pub record WalkAdds (count : ℕ) (bounds : List ℕ) (ties : Ties) : Type 0 where
  pub exactly : (t : ℕ) → has ties t ≡ true ↔ Among OfTie count bounds t

-- the sets of the paths between the arguments of two applications, as one
pub record TwoPaths (links paths : List ℕ) (a b a' b' : ℕ) (ties : Ties) : Type 0 where
  pub first : Ties
  pub first_says : PathSays links paths a a' first
  pub second : Ties
  pub second-says : PathSays links paths b b' second
  pub all : (t : ℕ) → has ties t ≡ has first t || has second t

abbrev pub arity : Term → ℕ
arity unknown = 0
arity (number c) = 0
arity (shift a c) = 0
arity (apply symbol a) = 1
arity (apply2 symbol a b) = 2

-- what a set says of two terms; it has no ties where they aren't applications of one kind
pub data InputsSay (links paths : List ℕ) : Term → Term → Ties → Type 0 where
  one : {f g a b : ℕ} {ties : Ties} → PathSays links paths a b ties → InputsSay links paths (apply f a) (apply g b) ties
  two : {f g a b a' b' : ℕ} {ties : Ties} → TwoPaths links paths a b a' b' ties → InputsSay links paths (apply2 f a b) (apply2 g a' b') ties
  other : {f g : Term} {ties : Ties} → (arity f ≡ arity g → arity f ≡ 0) → ((t : ℕ) → has ties t ≡ false) → InputsSay links paths f g ties
