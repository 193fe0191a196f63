-- What the parts promise, joined: of all entries, and of the whole room.
-- Assumes nothing.
use Prim.Native.Nat.{ℕ, ◌+◌, ◌*◌, ◌≤◌}
use mathlib.Core.Path.{◌≡◌, refl, sym, ◌∙◌}
use mathlib.Core.Bool.{true}
use mathlib.Core.List.{List}
use lib.IntN.{ℤ}
use lib.ListN.{length, replicate}
use native.Mathlib.Omega.{arith}
use Rattle.order.specs.First.{every, marked}
use Rattle.sheet.specs.Decode.{sheet_of}
use Rattle.sheet.specs.Limits.{max_entries}
use Rattle.sheet.specs.Sheet.{Sheet, count_terms, WellFormed}
use Rattle.sheet.proofs.Decode.{length-each}
use Rattle.meaning.proofs.Meaning.{meet-fewer}
use Rattle.grounds.specs.Table.{fine, refused, refusal}
use Rattle.grounds.proofs.Replies.{fine-refused}
use Rattle.answer.specs.Record.{listed, holds_record, clashes_record}
use Rattle.answer.specs.Levels.{Recorded}
use Rattle.answer.proofs.Tells.{holds-length, clashes-length}
use Rattle.meets.specs.Met.{value, Met}
use Rattle.settled.specs.Settled.{Settled}
use Rattle.values.specs.Written.{record_length, Written}
use Rattle.values.proofs.Limits.{listed-length, listed_at}
use Rattle.blame.specs.Blamed.{Blamed}
use Rattle.blame.proofs.Blame.{all-marked}
use Rattle.promise.specs.Answered.{SaysHolds, SaysClashes, Decided, Answered}
use Rattle.promise.proofs.Recorded.{recorded}

module _ (s : Sheet) (old new : List ℕ) (same : length new ≡ length old) where
  pub says_holds : WellFormed s → (d : ℕ → ℕ → ℕ) → Settled s (marked (replicate max_entries true)) d → Written s d old new → SaysHolds s old new 0 (record_length s)
  says_holds wf d settled w =
      let e : record_length s ≡ length (holds_record w.D (listed s w.n)) = omega (arith, holds-length w.D (listed s w.n), length-each (count_terms s) w.n) in
      record {
        D = w.D;
        n = w.n;
        meet = meet-fewer s every _ w.D w.n (λ x l h. all-marked wf x l) (w.meets _ settled);
        within = w.within;
        number_is = refl;
        place_is = e;
        room-is = recorded _ old new same (record_length s) e w.bytes w.kept;
      }

  -- with values that were found to meet it
  pub says-met : {v : List ℕ} {D size t : ℕ} → WellFormed s → t ≡ count_terms s → (1 ≤ D) × (D ≤ 65535) → Met s (marked (replicate max_entries true)) D v →
      (size ≡ 8 + 8 * t) × Recorded old new v D t → SaysHolds s old new 0 size
  says-met {v} {D} {size} wf t-is (l, m) met (size_is, r) =
      let n : ℕ → ℤ = value s v in
      let R : Recorded old new v D (count_terms s) = rw t-is at r in
      let e : record_length s ≡ length (holds_record D (listed s n)) = omega (arith, holds-length D (listed s n), length-each (count_terms s) n) in
      let f : size ≡ record_length s = rw t-is at size_is in
      record {
        D = D;
        n = n;
        meet = meet-fewer s every _ D n (λ x l h. all-marked wf x l) met.meet;
        within = record {
          least = l;
          most = m;
          above = λ i h. rw (listed_at s n i h) (met.above i (omega (arith, listed-length s n)));
          below = λ i h. rw (listed_at s n i h) (met.below i (omega (arith, listed-length s n)));
        };
        number_is = refl;
        place_is = f ∙ e;
        room-is = recorded _ old new same (record_length s) e R.bytes R.kept;
      }

  pub says-clashes : (size : ℕ) → Blamed s old new size → SaysClashes s old new 1 size
  says-clashes size b =
      let e : size ≡ length (clashes_record b.list) = b.size_is ∙ sym (clashes-length b.list) in
      record {
        list = b.list;
        first = b.first;
        within = b.within;
        number_is = refl;
        place_is = e;
        room-is = recorded _ old new same size e b.bytes b.kept;
      }

pub answered-refused : (sheet old : List ℕ) (N P : ℕ) → refusal sheet (length old) ≡ refused N P → Answered sheet old old N P
answered-refused sheet old N P e = record {
  sent_back = λ Q R q. record { number_is = cc; place_is = cc; room-is = refl };
  judged = λ f. absurd (fine-refused f e);
}

pub answered-decided : (sheet old new : List ℕ) (N P : ℕ) → refusal sheet (length old) ≡ fine → Decided (sheet_of sheet) old new N P → Answered sheet old new N P
answered-decided sheet old new N P e j = record { sent_back = λ Q R q. absurd (fine-refused e q); judged = λ f. j }
