-- A reason's draft in memory: the ledger of the list, with the ties of functions behind it, and the ties laid.
-- Assumes nothing.
use Rattle.std.specs.Prelude.{ℕ, List}
use Rattle.order.specs.First.{Set}
use Rattle.sheet.specs.Sheet.{Sheet, count_terms, count_entries}
use Rattle.ledger.specs.Ledger.{Ledger}
use Rattle.grown.specs.Grown.{FunctionTies}
use Rattle.layers.specs.Bounds.{bounds, Sound}
use Rattle.layers.specs.declared.Bound.{Bound}
use Rattle.laid.specs.Laid.{Laid}
use Rattle.settled.specs.Settled.{points}

-- bounds listed and named, and ties laid over them
pub record Drafted (s : Sheet) (S : Set) (list : List Bound) (names ties labels : List ℕ) (m listed count : ℕ) : Type 0 where
  pub ledger : Ledger s S list names m (count_terms s) (count_entries s)
  pub functions : FunctionTies s list m listed
  pub sound : Sound (points s) (bounds listed list)
  pub laid : Laid s list names names ties labels m listed count
