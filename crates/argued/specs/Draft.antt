-- What the endings of a draft ask: of what it was made, that its memory has its sizes, and that its ties can be written.
-- Assumes nothing.
use Rattle.std.specs.Prelude.{◌≡◌, ℕ, ◌+◌, ◌*◌, ◌<◌, ◌≤◌, Bool, true, List, length, slice_index}
use Rattle.cells.specs.Cells.{stride, cells, cell}
use Rattle.order.specs.First.{Set, marked}
use Rattle.sheet.specs.Limits.{max_terms, max_entries}
use Rattle.sheet.specs.Sheet.{Sheet, WellFormed}
use Rattle.layers.specs.declared.Bound.{Bound}
use Rattle.grown.specs.Grown.{Grew}
use Rattle.sketch.specs.Sketch.{how_of}
use Rattle.drafted.specs.Drafted.{Drafted}
use Rattle.paper.specs.Record.{reason_room}
use Rattle.paper.specs.Written.{Readable}

-- a draft of some list, with the table that was grown for it, and room for the record of k entries
pub record Ready (s : Sheet) (list : List Bound) (names ties labels best room : List ℕ) (m listed count put k : ℕ) : Type 0 where
  pub formed : WellFormed s
  pub set : Set
  pub drafted : Drafted s set list names ties labels m listed count
  pub grew : Grew s list m (cell best) listed put
  pub all-names : listed ≤ length names
  pub all-ties : length ties ≡ stride
  pub all-labels : length labels ≡ cells
  pub all-cells : length best ≡ cells
  pub enough : reason_room ≤ length room
  pub few : k ≤ max_entries

-- the walks of the needed ones of the first count ties can be read, and there is room for all of them and an ending
pub record Writable (room ties names walks : List ℕ) (need : List Bool) (k count : ℕ) : Type 0 where
  pub enough : reason_room ≤ length room
  pub few : k ≤ max_entries
  pub few-ties : count ≤ max_terms
  pub all-ties : count ≤ length ties
  pub all-needed : count ≤ length need
  pub readable : (t : ℕ) → t < count → marked need t ≡ true → 0 < how_of (slice_index ties t)
      → Readable t names walks (2 * t) × Readable t names walks (2 * t + 1)
