-- The levels of a closed table as the levels of a record: what the record of these says.
-- Assumes nothing.
use Prim.Native.Nat.{ℕ, ◌*◌, ◌<◌}
use mathlib.Core.Path.{◌≡◌, ◌∙◌, ap, ap₂}
use mathlib.Core.List.{List}
use lib.IntN.{ℤ, sub_ℕ}
use lib.ListN.{get_or}
use native.Mathlib.Omega.{arith}
use Rattle.closure.specs.Closed.{Closed}
use Rattle.closure.specs.Table.{reach}
use Rattle.levels.specs.Level.{level_of, value_of}
use Rattle.sheet.specs.Sheet.{Sheet, count_terms, WellFormed}
use Rattle.sheet.proofs.Decode.{each_same}
use Rattle.answer.specs.Record.{holds_record}
use Rattle.answer.specs.Levels.{value_at, Recorded}
use Rattle.settled.specs.Settled.{zero_level, points}
use Rattle.values.specs.Written.{Written}
use Rattle.settled.proofs.Meet.{settled-meets}
use Rattle.values.proofs.Limits.{values-within}

module _ (s : Sheet) (d : ℕ → ℕ → ℕ) (v : List ℕ) where
  abbrev value : ℕ → ℤ
  value = value_of (points s) (reach (points s)) d (zero_level s)

  value-is : ((i : ℕ) → i < points s → get_or v i 0 ≡ level_of (points s) (reach (points s)) d i) → (i : ℕ) → i < count_terms s → value_at v (count_terms s) i ≡ value i
  value-is h i l = ap₂ sub_ℕ (h i (omega arith)) (h (count_terms s) (omega arith))

  pub written : {old new : List ℕ} → WellFormed s → Closed (points s) (reach (points s)) d →
      ((i : ℕ) → i < points s → get_or v i 0 ≡ level_of (points s) (reach (points s)) d i) →
      Recorded old new v (points s * points s) (count_terms s) → Written s d old new
  written W C h R =
      record {
        D = points s * points s;
        n = value;
        meets = λ S T. settled-meets s S d W T;
        within = values-within s d W C;
        bytes = R.bytes ∙ ap (holds_record (points s * points s)) (each_same (count_terms s) (value-is h));
        kept = R.kept;
      }
