-- A circle of points, each lowered by the next, as the search's memory has it: whether it is a tie.
-- Assumes nothing.
use Rattle.std.specs.Prelude.{ℕ, zero, suc, ◌+◌, ◌*◌, ◌/◌, ◌%◌, ◌^◌, Bool, cond, false, List, eqb, get_or}
use Rattle.notes.specs.Limits.{places, memory, slacks, denominator}

-- the bound that lowered point y last
abbrev pub last_of : (m : List ℕ) (y : ℕ) → ℕ
last_of m y = get_or m (get_or m (places + y) 0 % memory) 0

-- the point that it goes on to
abbrev pub next_of : (m : List ℕ) (y : ℕ) → ℕ
next_of m y = last_of m y / places % places

-- by how much it lets a point be over the next
abbrev pub weight_of : (m : List ℕ) (y : ℕ) → ℕ
weight_of m y = last_of m y / places ^ 2 % 2 ^ 44

-- its c, biased, in parts of the slacks, and one more where its slack is even, so that it isn't strict
abbrev pub step_of : (m : List ℕ) (y : ℕ) → ℕ
step_of m y = weight_of m y / slacks + weight_of m y % 2

-- what a step comes to whose c is 0 and that isn't strict
abbrev pub even_step : ℕ
even_step = 32768 * (denominator / slacks) + 1

-- from y on, with so many steps left, until x comes round: whether all steps together are as many even ones
abbrev pub is_tie : (m : List ℕ) (x left y sum due : ℕ) → Bool
is_tie m x zero y sum due = false
is_tie m x (suc left) y sum due =
    cond (eqb (next_of m y) x) (eqb (sum + step_of m y) (due + even_step)) (is_tie m x left (next_of m y) (sum + step_of m y) (due + even_step))
