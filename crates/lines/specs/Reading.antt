-- A text read so far: its lines, and what the memory holds of them. Nothing here need be believed.
-- Assumes nothing.
use Rattle.std.specs.Prelude.{ℕ, ◌+◌, ◌≤◌, ◌≡◌, List, [], map, length, take, drop, Ok, Err}
use Rattle.sheet.specs.Limits.{max_terms, max_entries}
use Rattle.text.specs.Text.{Line}
use Rattle.text.specs.Print.{print}
use Rattle.numbered.specs.Numbered.{enter_lines}
use Rattle.numbered.specs.Within.{LinesIn}
use Rattle.slips.specs.Outcome.{Found}
use Rattle.slips.specs.Says.{number_of, place_of}
use Rattle.slips.specs.Slips.{Slip, FirstSlip}
use Rattle.met.specs.Keys.{entry_code, Table}

-- the memory holds the terms and entries of these lines
pub record Holds (ls : List Line) (m : List ℕ) : Type 0 where
  pub table : Table m (enter_lines ls []).keys
  pub entries : take (length ls) (drop (max_terms + 1) m) ≡ map entry_code (enter_lines ls []).entries

-- bs is a text of l lines, without a slip
pub record Whole (bs : List ℕ) (m : List ℕ) (l : ℕ) : Type 0 where
  pub lines : List Line
  pub same : print lines ≡ bs
  pub count : length lines ≡ l
  pub some : 1 ≤ l
  pub few : l ≤ max_entries
  pub in_limits : LinesIn lines
  pub clean : (N P : ℕ) → Slip bs N P → ⊥
  pub holds : Holds lines m

abbrev pub TextTold : List ℕ → List ℕ → Found → Type 0
TextTold bs m (Ok found) = Whole bs m found.1
TextTold bs m (Err slip) = FirstSlip bs (number_of slip) (place_of slip)
