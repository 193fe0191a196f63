-- `baruvkesh::baruvkesh_transcribe` meets its contract: a place fits the low half, so number and place are read back from the one number.
-- Assumes nothing.
use Prim.Native.Nat.{◌≤◌}
use mathlib.Core.Path.{refl}
use native.Mathlib.Omega.{arith}
use Rattle.transcript.specs.Transcribed.{place_of, Transcribed}
use Rattle.transcript.proofs.Place.{place-within}
use Rattle.baruvkesh.proofs.Halves.{read_back}
use Rattle.baruvkesh.proofs.baruvkesh_transcribe.Lts as lts
use Rattle.baruvkesh.proofs.baruvkesh_transcribe.Reads as reads
use Rattle.baruvkesh.proofs.baruvkesh_transcribe.Tie as tie
use Rattle.baruvkesh.proofs.baruvkesh_transcribe.Goals as goal

abbrev After-transcribe : Type 0
After-transcribe = lts.After-transcribe tie.the-claims reads.Pre reads.Post

pub returns-then-text-ge-PLACES : goal.returns-then-text-ge-PLACES
returns-then-text-ge-PLACES c = record { read = λ h. absurd (omega arith); answer-is = λ h. refl; room-is = λ h. refl }

low : (c : After-transcribe) → place_of c.transcribe-typed.result ≤ 4294967295
low c = place-within c.transcribe-typed.ensures 4294967295 (omega arith) (omega arith)

pub overflow_add-result : goal.overflow_add-result
overflow_add-result c = omega (arith, low c.before.before.before.before.before)

pub returns : goal.returns
returns c =
    record {
      read = λ h. read_back (Transcribed _ _ _) 4294967296 _ (omega (arith, low c.before.before.before.before.before)) (omega arith) c.transcribe-typed.ensures;
      answer-is = λ h. absurd (omega arith);
      room-is = λ h. absurd (omega arith);
    }
