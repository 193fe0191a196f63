-- What the look-up answers of any slice and any two numbers.
-- Assumes nothing.
use Rattle.std.specs.Prelude.{ℕ, cond, ◌&&◌, List, eqb, ltb, length}
use Rattle.kind.specs.Code.{none}
use Rattle.closure.specs.Closed.{tie_of}
use Rattle.cells.specs.Cells.{stride, cells, cell}

-- the gap at which a is tied to b, and no gap where d isn't a table or one of the two no point of it
abbrev pub looked_up : List ℕ → ℕ → ℕ → ℕ
looked_up d a b = cond (eqb (length d) cells && (ltb a stride && ltb b stride)) (tie_of (cell d) a b) none
