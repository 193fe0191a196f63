-- What the parts promise, joined: of the list, of what is laid out, and of the answer.
-- Assumes nothing.
use Prim.Native.Nat.{ℕ}
use mathlib.Core.Path.{◌≡◌, refl}
use mathlib.Core.Bool.{Bool, true, false}
use mathlib.Core.List.{List}
use lib.ListN.{replicate}
use Rattle.std.specs.Prelude.{Result, Ok, Err}
use Rattle.order.specs.First.{marked}
use Rattle.sheet.specs.Decode.{stated_entries, sheet_of}
use Rattle.sheet.specs.Limits.{room_needed}
use Rattle.sheet.specs.Sheet.{count_entries}
use Rattle.sheet.proofs.Decode.{entries-stated}
use Rattle.grounds.specs.Table.{fine, refusal}
use Rattle.grounds.proofs.Fine.{fine-formed}
use Rattle.grounds.proofs.Replies.{fine-sheet, fine-refused}
use Rattle.legs.specs.Legs.{Laid}
use Rattle.stated.specs.declared.Step.{Step as Record}
use Rattle.surveyor.specs.Surveyed.{number_of, place_of, Rises, Told, no-list, Surveyed}
use Rattle.surveyor.specs.Inside.{Marks, RisesSays, AllFine, ReadySays, Answers}
use Rattle.surveyor.specs.declared.Survey.{Survey}
use Rattle.surveyor.specs.declared.Survey.TheVariants as survey

module _ (sheet list : List ℕ) (listed : List Bool) (r : Bool) (h : RisesSays (stated_entries sheet) list listed r) where
  pub list-none : r ≡ false → Rises (count_entries (sheet_of sheet)) list → ⊥
  unfolding RisesSays
  list-none e R = (rw e at h) (rw (entries-stated sheet) at R)

  pub list-some : r ≡ true → Marks (count_entries (sheet_of sheet)) list listed
  unfolding RisesSays
  list-some e = rw (entries-stated sheet) (rw e at h)

pub all-fine : {sheet list : List ℕ} {listed : List Bool} {old legs : List ℕ} → old ≡ replicate 768 0 → refusal sheet room_needed ≡ fine →
    Marks (count_entries (sheet_of sheet)) list listed → Laid (sheet_of sheet) (marked listed) old legs → AllFine sheet list listed legs
all-fine {sheet} e f M l =
    let (sized, formed) = fine-formed sheet (fine-sheet sheet room_needed f).0 in
    record { accepted = f; marks = M; begun = record { sized = sized; well-formed = formed; size = M.size; legs-are = rw e at l } }

surveyed-told : {sheet list : List ℕ} {records : List Record} {N P : ℕ} → refusal sheet room_needed ≡ fine → Told (sheet_of sheet) list records N P →
    Surveyed sheet list records N P
surveyed-told e t = record { sent_back = λ Q R q. absurd (fine-refused e q); told = λ f. t }

module _ (sheet list : List ℕ) (listed : List Bool) (legs : List ℕ) (r : Result Unit Survey) (h : ReadySays sheet list listed legs r) where
  pub check-early : {records : List Record} (told : Survey) → r ≡ Err told → Surveyed sheet list records (number_of told) (place_of told)
  unfolding ReadySays
  check-early (survey.Refused why) e = let f = rw e at h in record { sent_back = λ Q R q. (cc, cc); told = λ g. absurd (fine-refused g f) }
  check-early survey.NoList e = let (f, n) = rw e at h in surveyed-told f (no-list n refl refl)
  check-early survey.Yes e = absurd (rw e at h)
  check-early (survey.Wrong n) e = absurd (rw e at h)

  pub check-ready : r ≡ Ok tt → AllFine sheet list listed legs
  unfolding ReadySays
  check-ready e = rw e at h

  pub check-told : {records : List Record} {answer : Survey} → r ≡ Ok tt → Answers (sheet_of sheet) listed records answer →
      Surveyed sheet list records (number_of answer) (place_of answer)
  check-told e A = let F = check-ready e in surveyed-told F.accepted (A.told list F.marks)
