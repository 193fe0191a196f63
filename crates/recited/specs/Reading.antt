-- What the parts of the reading promise each other: where a step ends, what it says, and the first steps of all.
-- Assumes nothing.
use Rattle.std.specs.Prelude.{ℕ, ◌+◌, ◌≤◌, ◌<◌, ◌≡◌, List, length}
use Rattle.stated.specs.Said.{record_at}
use Rattle.stated.specs.declared.Step.{Step as Record}
use Rattle.recited.specs.Recited.{size_at, Whole, record_from, torn, Recites}

-- as many steps as an answer can depend on
abbrev pub most : ℕ
most = 130

-- and as many as most reasons have
abbrev pub few : ℕ
few = 8

-- the step that begins at `at` ends before `end`
pub record Ends (b : List ℕ) (at end : ℕ) : Type 0 where
  pub whole : Whole b at → end ≡ at + size_at b at
  pub cut : (Whole b at → ⊥) → end ≡ length b

-- and says r
pub record From (b : List ℕ) (at : ℕ) (r : Record) : Type 0 where
  pub whole : Whole b at → r ≡ record_from b at
  pub cut : (Whole b at → ⊥) → r ≡ torn

-- the first steps that the bytes say, as many as there is room for; what stands behind them says nothing
pub record Firsts (room : ℕ) (b : List ℕ) (steps : List Record) : Type 0 where
  pub size : length steps ≡ room
  pub each : (records : List Record) → Recites b 0 records → (n : ℕ) → n < room → n < length records → record_at steps n ≡ record_at records n

-- and how many they are
pub record Counts (b : List ℕ) (n : ℕ) : Type 0 where
  pub few : n ≤ most
  pub within : (records : List Record) → Recites b 0 records → n ≤ length records
  pub all : (records : List Record) → Recites b 0 records → n < most → n ≡ length records
