-- What the parts of the check promise each other: the list's entries marked and the legs laid, the steps that have passed, and the answer.
-- Assumes nothing.
use Rattle.std.specs.Prelude.{ℕ, ◌<◌, ◌≡◌, Bool, true, false, List, length, get_or, replicate, Result, Ok, Err}
use Rattle.order.specs.First.{set_of, marked}
use Rattle.sheet.specs.Limits.{room_needed}
use Rattle.sheet.specs.Decode.{Sized, sheet_of}
use Rattle.sheet.specs.Sheet.{Sheet, WellFormed, count_entries}
use Rattle.grounds.specs.Table.{refused, fine, refusal}
use Rattle.refusal.specs.Says.{number_of as refusal_number, place_of as refusal_place}
use Rattle.stated.specs.Said.{steps_of, Formed, record_at}
use Rattle.stated.specs.declared.Step.{Step as Record}
use Rattle.legs.specs.Legs.{Laid, tie_place}
use Rattle.linked.specs.Known.{Known}
use Rattle.traced.specs.Traced.{Traced}
use Rattle.basis.specs.Basis.{Lent}
use Rattle.gathered.specs.Gathers.{Upright}
use Rattle.surveyor.specs.declared.Survey.{Survey}
use Rattle.surveyor.specs.declared.Survey.TheVariants as survey
use Rattle.surveyor.specs.Surveyed.{number_of, place_of, Rises, Told}

-- a list that rises, and the marks of its entries
pub record Marks (L : ℕ) (list : List ℕ) (listed : List Bool) : Type 0 where
  pub rises : Rises L list
  pub size : length listed ≡ 256
  pub same : marked listed ≡ set_of list

unfoldable pub RisesSays : (L : ℕ) (list : List ℕ) (listed : List Bool) → Bool → Type 0
RisesSays L list listed true = Marks L list listed
RisesSays L list listed false = Rises L list → ⊥

-- a sheet that isn't sent back, and the legs of its terms and of the entries that are listed
pub record Begun (sheet : List ℕ) (listed : List Bool) (legs : List ℕ) : Type 0 where
  pub sized : Sized sheet
  pub well-formed : WellFormed (sheet_of sheet)
  pub size : length listed ≡ 256
  pub legs-are : Laid (sheet_of sheet) (marked listed) (replicate 768 0) legs

-- what is found before any step is looked at
pub record AllFine (sheet list : List ℕ) (listed : List Bool) (legs : List ℕ) : Type 0 where
  pub accepted : refusal sheet room_needed ≡ fine
  pub marks : Marks (count_entries (sheet_of sheet)) list listed
  pub begun : Begun sheet listed legs

unfoldable pub ReadySays : (sheet list : List ℕ) (listed : List Bool) (legs : List ℕ) → Result Unit Survey → Type 0
ReadySays sheet list listed legs (Ok _) = AllFine sheet list listed legs
ReadySays sheet list listed legs (Err (survey.Refused why)) = refusal sheet room_needed ≡ refused (refusal_number why) (refusal_place why)
ReadySays sheet list listed legs (Err survey.NoList) = (refusal sheet room_needed ≡ fine) × (Rises (count_entries (sheet_of sheet)) list → ⊥)
ReadySays sheet list listed legs (Err survey.Yes) = ⊥
ReadySays sheet list listed legs (Err (survey.Wrong n)) = ⊥

-- the first n steps are ties of the form of steps, and what is known of them
pub record Passed (s : Sheet) (listed : List Bool) (records : List Record) (n : ℕ) (legs links paths : List ℕ) : Type 0 where
  pub known : Known s (marked listed) (steps_of records) n legs links
  pub traced : Traced (steps_of records) links paths
  pub formed : (t : ℕ) → t < n → Formed (record_at records t)

-- a step that closes, behind ties
pub record Ended (sheet : List ℕ) (listed : List Bool) (records : List Record) (n : ℕ) (links paths : List ℕ) : Type 0 where
  pub lent : Lent sheet links paths
  pub size : length listed ≡ 256
  pub legs : List ℕ
  pub upright : Upright (sheet_of sheet) (marked listed) records n legs links paths

-- only legs of ties are laid: those of entries and terms are as they were
pub record TiesLaid (old new : List ℕ) : Type 0 where
  pub size : length new ≡ length old
  pub before : (k : ℕ) → k < tie_place → get_or new k 0 ≡ get_or old k 0

-- the answer, for whatever list the marks are of
pub record Answers (s : Sheet) (listed : List Bool) (records : List Record) (r : Survey) : Type 0 where
  pub told : (list : List ℕ) → Marks (count_entries s) list listed → Told s list records (number_of r) (place_of r)
