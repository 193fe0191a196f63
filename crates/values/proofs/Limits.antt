-- The values of a closed table are within the answer's limits, as a list with one for each term.
-- Assumes nothing.
use Prim.Native.Nat.{ℕ, ◌+◌, ◌*◌, ◌^◌, ◌≤◌, ◌<◌}
use mathlib.Core.Path.{◌≡◌}
use lib.IntN.{ℤ, pos}
use lib.ListN.{length, get_or}
use native.Mathlib.Nat.{mul-le-mul, mul-pos}
use native.Mathlib.Omega.{arith}
use Rattle.whole.specs.Whole.{plus, minus}
use Rattle.closure.specs.Closed.{Closed}
use Rattle.closure.specs.Table.{reach}
use Rattle.levels.specs.Level.{value_of}
use Rattle.levels.proofs.Theorem.{values}
use Rattle.levels.proofs.Uses.{limit}
use Rattle.sheet.specs.Limits.{max_terms}
use Rattle.sheet.specs.Sheet.{Sheet, count_terms, WellFormed}
use Rattle.sheet.proofs.Decode.{length-each, get_or-each}
use Rattle.answer.specs.Record.{listed, ValuesWithin}
use Rattle.settled.specs.Settled.{zero_level, points}

pub listed-length : (s : Sheet) (n : ℕ → ℤ) → length (listed s n) ≡ count_terms s
listed-length s n = length-each (count_terms s) n

pub listed_at : (s : Sheet) (n : ℕ → ℤ) (i : ℕ) → i < length (listed s n) → get_or (listed s n) i (pos 0) ≡ n i
listed_at s n i h = get_or-each (count_terms s) n (pos 0) i (omega (arith, listed-length s n))

module _ (s : Sheet) (d : ℕ → ℕ → ℕ) (W : WellFormed s) (C : Closed (points s) (reach (points s)) d) where
  abbrev n : ℕ → ℤ
  n = value_of (points s) (reach (points s)) d (zero_level s)

  near : (i : ℕ) → i < length (listed s n) → (plus (n i) ≤ 2 ^ 40) × (minus (n i) ≤ 2 ^ 40)
  near i h =
      limit (points s) d (zero_level s) n (values (points s) (reach (points s)) d C (zero_level s) (omega arith))
      (omega (arith, W.terms))
      i
      (omega (arith, listed-length s n))

  pub values-within : ValuesWithin (points s * points s) (listed s n)
  values-within =
      let h : points s ≤ max_terms + 1 = omega (arith, W.terms) in
      record {
        least = mul-pos (omega arith) (omega arith);
        most = omega (arith, mul-le-mul h h);
        above = λ i l. rw (listed_at s n i l) (near i l).0;
        below = λ i l. rw (listed_at s n i l) (near i l).1;
      }
