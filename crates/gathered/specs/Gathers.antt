-- What is marked when the entries behind a step are gathered.
-- Assumes nothing.
use Rattle.std.specs.Prelude.{ℕ, ◌≤◌, ◌<◌, ◌≡◌, ◌⊎◌, Bool, true, false, ◌||◌, Option, Some, None, List, eqb, length}
use Rattle.order.specs.First.{Set, marked}
use Rattle.sheet.specs.Decode.{sheet_of}
use Rattle.sheet.specs.Sheet.{Sheet}
use Rattle.reasons.specs.Step.{Step, step_at}
use Rattle.reasons.specs.Rules.{Closing}
use Rattle.reasons.specs.Reason.{Rests, Gathered, Uses, Behind}
use Rattle.stated.specs.Said.{step_of, steps_of, Formed, record_at}
use Rattle.stated.specs.declared.Step.{Step as Record}
use Rattle.sets.specs.declared.Ties.{Ties}
use Rattle.sets.specs.Sets.{has, stored}
use Rattle.linked.specs.Known.{Known}
use Rattle.traced.specs.Traced.{Traced}

-- the records up to the last are right steps: ties, and the last closes
pub record Upright (s : Sheet) (listed : Set) (records : List Record) (last : ℕ) (legs links paths : List ℕ) : Type 0 where
  pub there : last < length records
  pub known : Known s listed (steps_of records) last legs links
  pub traced : Traced (steps_of records) links paths
  pub formed : (t : ℕ) → t ≤ last → Formed (record_at records t)
  pub closing : Closing s listed (steps_of records) last (step_of (record_at records last))

-- so with step `at` among them, whatever the list
pub record Standing (sheet : List ℕ) (records : List Record) (links paths : List ℕ) (at : ℕ) : Type 0 where
  pub listed : Set
  pub last : ℕ
  pub legs : List ℕ
  pub among : at ≤ last
  pub upright : Upright (sheet_of sheet) listed records last legs links paths

-- the ties that are walked
abbrev pub is_walked : (walked : List ℕ) → ℕ → Bool
is_walked walked t = has (stored walked 0) t

-- of each walked tie below n the entries are marked, and what it rests on is walked
pub record Through (s : Sheet) (steps : List Step) (n : ℕ) (entries : List Bool) (walked : List ℕ) : Type 0 where
  pub uses : (t e : ℕ) → t < n → is_walked walked t ≡ true → Uses (step_at steps t) e → marked entries e ≡ true
  pub rests : (t u : ℕ) → t < n → is_walked walked t ≡ true → Rests s steps t (step_at steps t) u → is_walked walked u ≡ true

-- the entries of step `at` are marked, and everything that it rests on is walked; nothing else is new
pub record Gathers (s : Sheet) (steps : List Step) (at : ℕ) (entries : List Bool) (walked : List ℕ) (entries' : List Bool) (walked' : List ℕ) : Type 0 where
  pub sizes : (length entries' ≡ length entries) × (length walked' ≡ length walked)
  pub kept : (e : ℕ) → marked entries e ≡ true → marked entries' e ≡ true
  pub still : (t : ℕ) → is_walked walked t ≡ true → is_walked walked' t ≡ true
  pub own-uses : (e : ℕ) → Uses (step_at steps at) e → marked entries' e ≡ true
  pub own-rests : (u : ℕ) → Rests s steps at (step_at steps at) u → is_walked walked' u ≡ true
  pub below : Through s steps at entries' walked'
  pub above : (t : ℕ) → at ≤ t → is_walked walked' t ≡ is_walked walked t
  pub only : (e : ℕ) → marked entries' e ≡ true → (marked entries e ≡ true) ⊎ Behind s steps at e
  pub lower : (t : ℕ) → is_walked walked' t ≡ true → (is_walked walked t ≡ true) ⊎ Gathered s steps at t

-- tie r is the next one of a set that isn't walked, and is walked now
pub record Next (ties : Ties) (from : ℕ) (walked walked' : List ℕ) (r : ℕ) : Type 0 where
  pub size : length walked' ≡ length walked
  pub below : r < 128
  pub from_on : from ≤ r
  pub passed : (t : ℕ) → from ≤ t → t < r → has ties t ≡ true → is_walked walked t ≡ true
  pub here : (has ties r ≡ true) × (is_walked walked r ≡ false)
  pub now-walked : (t : ℕ) → is_walked walked' t ≡ is_walked walked t || eqb t r

-- there is none
pub record NoNext (ties : Ties) (from : ℕ) (walked walked' : List ℕ) : Type 0 where
  pub passed : (t : ℕ) → from ≤ t → t < 128 → has ties t ≡ true → is_walked walked t ≡ true
  pub same : walked' ≡ walked

abbrev pub NextSays : (ties : Ties) (from : ℕ) (walked walked' : List ℕ) → Option ℕ → Type 0
NextSays ties from walked walked' (Some r) = Next ties from walked walked' r
NextSays ties from walked walked' None = NoNext ties from walked walked'
