-- What the surveyor's check promises, from the bytes and records that it is lent to its answer.
-- Assumes nothing.
use Rattle.std.specs.Prelude.{ℕ, suc, ◌≤◌, ◌<◌, ◌≡◌, ◌↔◌, true, List, length, get_or}
use Rattle.order.specs.First.{set_of}
use Rattle.sheet.specs.Limits.{room_needed}
use Rattle.sheet.specs.Decode.{sheet_of}
use Rattle.sheet.specs.Sheet.{Sheet, count_entries}
use Rattle.grounds.specs.Table.{refused, fine, refusal}
use Rattle.refusal.specs.Says.{number_of as refusal_number, place_of as refusal_place}
use Rattle.reasons.specs.Rules.{TieRight, Closing}
use Rattle.reasons.specs.Reason.{Behind}
use Rattle.stated.specs.Said.{step_of, steps_of, Formed, record_at}
use Rattle.stated.specs.declared.Step.{Step as Record}
use Rattle.surveyor.specs.declared.Survey.{Survey}
use Rattle.surveyor.specs.declared.Survey.TheVariants as survey

-- document 02's number and place of an answer
abbrev pub number_of : Survey → ℕ
number_of (survey.Refused why) = refusal_number why
number_of survey.NoList = 27
number_of survey.Yes = 0
number_of (survey.Wrong n) = 1

abbrev pub place_of : Survey → ℕ
place_of (survey.Refused why) = refusal_place why
place_of survey.NoList = 0
place_of survey.Yes = 0
place_of (survey.Wrong n) = n

-- the entry numbers rise, and each is below L
pub record Rises (L : ℕ) (list : List ℕ) : Type 0 where
  pub rising : (x : ℕ) → suc x < length list → get_or list x 0 < get_or list (suc x) 0
  pub below : (x : ℕ) → x < length list → get_or list x 0 < L

-- step n has the form of a step, obeys the rules, uses listed entries only, and ties
pub record TiesRight (s : Sheet) (list : List ℕ) (records : List Record) (n : ℕ) : Type 0 where
  pub formed : Formed (record_at records n)
  pub right : TieRight s (set_of list) (steps_of records) n (step_of (record_at records n))

-- or closes, as the last, with exactly the list's entries behind it
pub record ClosesRight (s : Sheet) (list : List ℕ) (records : List Record) (n : ℕ) : Type 0 where
  pub last : length records ≡ suc n
  pub formed : Formed (record_at records n)
  pub closing : Closing s (set_of list) (steps_of records) n (step_of (record_at records n))
  pub exactly : (e : ℕ) → e < count_entries s → set_of list e ≡ true ↔ Behind s (steps_of records) n e

-- yes: ties, and a closing step
pub record Right (s : Sheet) (list : List ℕ) (records : List Record) (n : ℕ) : Type 0 where
  pub ties : (m : ℕ) → m < n → TiesRight s list records m
  pub closes : ClosesRight s list records n

-- step n is the first wrong one: those before it tie, and it does neither; where no step closes, it is the one after the last
pub record FirstWrong (s : Sheet) (list : List ℕ) (records : List Record) (n : ℕ) : Type 0 where
  pub before : (m : ℕ) → m < n → TiesRight s list records m
  pub within : n ≤ length records
  pub no_tie : n < length records → TiesRight s list records n → ⊥
  pub no-closing : n < length records → ClosesRight s list records n → ⊥

-- 27 where the list doesn't rise below L; else 0 for yes, and 1 at the first wrong step
pub data Told (s : Sheet) (list : List ℕ) (records : List Record) (number place : ℕ) : Type 0 where
  no-list : (Rises (count_entries s) list → ⊥) → number ≡ 27 → place ≡ 0 → Told s list records number place
  yes : {n : ℕ} → Rises (count_entries s) list → Right s list records n → number ≡ 0 → place ≡ 0 → Told s list records number place
  wrong : {n : ℕ} → Rises (count_entries s) list → FirstWrong s list records n → number ≡ 1 → place ≡ n → Told s list records number place

-- the promise: the sheet's own refusals first, 15 apart
pub record Surveyed (sheet list : List ℕ) (records : List Record) (number place : ℕ) : Type 0 where
  pub sent_back : (N P : ℕ) → refusal sheet room_needed ≡ refused N P → (number ≡ N) × (place ≡ P)
  pub told : refusal sheet room_needed ≡ fine → Told (sheet_of sheet) list records number place
