-- `cells::past_there` meets its contract: the cells between the two columns are those of the row.
-- Assumes nothing.
use Rattle.std.proofs.Common.{◌≡◌, ℕ, ◌+◌, ◌-◌, ◌<◌, ◌≤◌, List, length, get_or, take, drop, length-take, length-drop, get_or-take, get_or-drop, ◌∙◌, arith}
use Rattle.kind.specs.Code.{none}
use Rattle.cells.specs.Cells.{NoneThere}
use Rattle.cells.proofs.past_there.Goals as goal

module _ (row : List ℕ) (from n : ℕ) (l : from ≤ n) (m : n ≤ length row) where
  size : length (take (n - from) (drop from row)) ≡ n - from
  size = simp (length-take, length-drop) (omega arith)

  part : (last : ℕ) → NoneThere last (take (n - from) (drop from row)) → (j : ℕ) → from + last ≤ j → j < n → none ≤ get_or row j 0
  part last N j h k =
      let e : from + (j - from) ≡ j = omega arith in
      let at = get_or-take (n - from) (drop from row) (j - from) 0 (omega arith) ∙ get_or-drop from row (j - from) 0 in
      omega (arith, rw e at at, N (j - from) (omega arith) (omega (arith, size)))

pub returns-in-Some : goal.returns-in-Some
returns-in-Some c =
    let l : c.in-Some.last + 1 ≤ c.args.n - c.args.from = omega (arith, c.in-Some.ensures.0, size c.args.row.now c.args.from c.args.n (omega arith) (omega arith)) in
    (omega arith, omega arith, λ j h. part c.args.row.now c.args.from c.args.n (omega arith) (omega arith) (c.in-Some.last + 1) c.in-Some.ensures.1 j (omega arith))

pub returns-in-None : goal.returns-in-None
returns-in-None c = (omega arith, omega arith, λ j h. part c.args.row.now c.args.from c.args.n (omega arith) (omega arith) 0 c.in-None.ensures j (omega arith))
