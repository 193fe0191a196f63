-- Steps as bytes, one behind the other as a reason record has them, and when bytes are such a record.
-- Assumes nothing.
use Rattle.std.specs.Prelude.{ℕ, suc, ◌+◌, ◌*◌, ◌≤◌, ◌<◌, ◌≡◌, cond, List, [], ◌∷◌, ltb, length, replicate}
use Rattle.big.specs.Big.{big_of}
use Rattle.sheet.specs.Decode.{byte_at, each}
use Rattle.stated.specs.declared.Step.{Step as Record}
use Rattle.surveyor.specs.Surveyed.{Surveyed}

-- a step begins with its kind, a, b, c in 8 bytes and the numbers of bounds of its two walks, which follow, 2 bytes each
abbrev pub step_head : ℕ
step_head = 13

abbrev pub longest : ℕ
longest = step_head + 4 * 255

unfoldable pub size_at : List ℕ → ℕ → ℕ
size_at b at = step_head + 2 * byte_at b (at + 11) + 2 * byte_at b (at + 12)

-- all the bytes of the step that begins at `at` are there
pub record Whole (b : List ℕ) (at : ℕ) : Type 0 where
  pub head : at + step_head ≤ length b
  pub bounds : at + size_at b at ≤ length b

-- so many bounds, as far as a walk of any sheet goes
abbrev pub row_at : (b : List ℕ) (at count : ℕ) → List ℕ
row_at b at count = each 129 (λ x. cond (ltb x count) (big_of b (at + 2 * x) 2) 0)

unfoldable pub record_from : List ℕ → ℕ → Record
record_from b at =
    record {
      kind = byte_at b at;
      a = byte_at b (at + 1);
      b = byte_at b (at + 2);
      c = big_of b (at + 3) 8;
      first = byte_at b (at + 11);
      second = byte_at b (at + 12);
      there = row_at b (at + step_head) (byte_at b (at + 11));
      back = row_at b (at + step_head + 2 * byte_at b (at + 11)) (byte_at b (at + 12));
    }

-- a step whose bytes end within it is of a kind that there isn't
abbrev pub blank_of : ℕ → Record
blank_of kind = record { kind = kind; a = 0; b = 0; c = 0; first = 0; second = 0; there = replicate 129 0; back = replicate 129 0 }

abbrev pub torn : Record
torn = blank_of 255

-- the steps that the bytes from `at` on say
pub data Recites (b : List ℕ) : ℕ → List Record → Type 0 where
  ended : {at : ℕ} → length b ≤ at → Recites b at []
  cut : {at : ℕ} → at < length b → (Whole b at → ⊥) → Recites b at (torn ∷ [])
  step : {at : ℕ} {rest : List Record} → Whole b at → Recites b (at + size_at b at) rest → Recites b at (record_from b at ∷ rest)

-- the promise: the surveyor's own, for the steps that the bytes say
pub record Recited (sheet list bytes : List ℕ) (number place : ℕ) : Type 0 where
  pub records : List Record
  pub recites : Recites bytes 0 records
  pub surveyed : Surveyed sheet list records number place

abbrev pub head_length : ℕ
head_length = 10

-- where the list of a record ends, and its steps begin
abbrev pub list_end : List ℕ → ℕ
list_end r = head_length + big_of r 6 2

-- from `at` up to the end stand so many whole steps, of which so many tie
pub data Steps (r : List ℕ) : (at count ties : ℕ) → Type 0 where
  done : {at : ℕ} → at ≡ length r → Steps r at 0 0
  tie : {at count ties : ℕ} → Whole r at → byte_at r at < 2 → Steps r (at + size_at r at) count ties → Steps r at (suc count) (suc ties)
  other : {at count ties : ℕ} → Whole r at → 2 ≤ byte_at r at → Steps r (at + size_at r at) count ties → Steps r at (suc count) ties

-- the stated length, 1, the number of tie steps, and behind the list as many steps as are stated
pub record IsRecord (r : List ℕ) : Type 0 where
  pub long : head_length ≤ length r
  pub stated : big_of r 0 4 ≡ length r
  pub one : byte_at r 4 ≡ 1
  pub steps : Steps r (list_end r) (big_of r 8 2) (byte_at r 5)
