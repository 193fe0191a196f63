-- What is found among the first 130 steps is so of all: no more ties than points are right, so neither the 130th step closes nor do so many tie.
-- Assumes nothing.
use Prim.Native.Nat.{ℕ, ◌+◌, ◌≤◌, ◌<◌}
use mathlib.Core.Path.{◌≡◌}
use mathlib.Core.List.{List}
use lib.ListN.{length, take}
use lib.Seq.{length-take-le, take_all, get_or-take}
use native.Mathlib.Decide.{dec_le}
use native.Mathlib.Omega.{arith}
use Rattle.order.specs.First.{set_of}
use Rattle.sheet.specs.Limits.{room_needed}
use Rattle.sheet.specs.Sheet.{Sheet, WellFormed}
use Rattle.grounds.proofs.Replies.{fine-sheet}
use Rattle.grounds.proofs.Fine.{fine-formed}
use Rattle.stated.specs.Said.{steps_of, blank, record_at}
use Rattle.stated.specs.declared.Step.{Step as Record}
use Rattle.stated.proofs.Said.{step-said, steps-take}
use Rattle.surveyor.specs.Surveyed.{TiesRight, FirstWrong, Told, Surveyed}
use Rattle.surveyor.specs.Surveyed.Told.{no-list, yes as reason, wrong}
use Rattle.recited.specs.Recited.{Recited}
use Rattle.recited.specs.Reading.{most, Firsts, Counts}
use Rattle.recited.proofs.Same.{SameBelow, same-turned, same-lower, tie-same}
use Rattle.linked.proofs.Ties.{few-ties}
use Rattle.recited.proofs.Recites.{recites-some}
use Rattle.recited.proofs.Reading.{first-records}

-- steps that tie are few
ties-few : {s : Sheet} {list : List ℕ} {records : List Record} → (n : ℕ) → WellFormed s → n ≤ length records →
    ((m : ℕ) → m < n → TiesRight s list records m) → n + 1 < most
ties-few {s} {list} {records} n W l ties =
    let few = few-ties s (set_of list) (steps_of records) W.terms n (λ t h. rw (step-said records t (omega arith)) (ties t h).right) in
    omega (arith, W.terms)

module _ (records : List Record) (long : most < length records) where
  size : length (take most records) ≡ most
  size = length-take-le most records (omega arith)

  same-steps : SameBelow most (steps_of (take most records)) (steps_of records)
  same-steps = record { each = λ t l. rw (steps-take most records) (get_or-take most (steps_of records) t _ l) }

  same-record : (n : ℕ) → n < most → record_at (take most records) n ≡ record_at records n
  same-record n l = get_or-take most records n blank l

  module _ {s : Sheet} {list : List ℕ} (W : WellFormed s) where
    ties-all : {n : ℕ} → n < most → TiesRight s list (take most records) n → TiesRight s list records n
    ties-all {n} l T =
        record {
          formed = rw (same-record n l) at T.formed;
          right = tie-same (same-lower (omega arith) same-steps) W (rw (same-record n l) at T.right);
        }

    ties-first : {n : ℕ} → n < most → TiesRight s list records n → TiesRight s list (take most records) n
    ties-first {n} l T =
        record {
          formed = rw (same-record n l) T.formed;
          right = rw (same-record n l) (tie-same (same-lower (omega arith) (same-turned same-steps)) W T.right);
        }

    told-all : {N P : ℕ} → Told s list (take most records) N P → Told s list records N P
    told-all (no-list r e f) = no-list r e f
    told-all (reason {n} r R e f) = absurd (omega (arith, R.closes.last, size, ties-few n W (omega (arith, R.closes.last)) R.ties))
    told-all (wrong {n} r F e f) = wrong r all e f
      where
        few : n < most
        few = omega (arith, ties-few n W F.within F.before)

        all : FirstWrong s list records n
        all =
            record {
              before = λ m l. ties-all (omega (arith, few)) (F.before m l);
              within = omega (arith, few);
              no_tie = λ l T. F.no_tie (omega (arith, few, size)) (ties-first few T);
              no-closing = λ l C. omega (arith, few, C.last);
            }

pub first-only : (sheet list : List ℕ) (records : List Record) (N P : ℕ) → Surveyed sheet list (take most records) N P →
    Surveyed sheet list records N P
first-only sheet list records N P A = go (dec_le (length records) most)
  where
    go : Dec (length records ≤ most) → Surveyed sheet list records N P
    go (yes l) = rw (take_all most records l) at A
    go (no l) =
        record {
          sent_back = A.sent_back;
          told = λ e. told-all records (omega arith) (fine-formed sheet (fine-sheet sheet room_needed e).0).1 (A.told e);
        }

-- so is what is found among the first of those that bytes say
pub recited-first : {sheet list bytes : List ℕ} {steps : List Record} {room n N P : ℕ} → Firsts room bytes steps → Counts bytes n → n ≤ room →
    Surveyed sheet list (take n steps) N P → Recited sheet list bytes N P
recited-first {sheet} {list} {bytes} {N = N} {P} F C fit A =
    let S = recites-some bytes 0 in
    record {
      records = S.records;
      recites = S.recites;
      surveyed = first-only sheet list S.records N P (rw (first-records F C fit S.recites) at A);
    }
