-- `circles::around` meets its contract: what the way from y on comes to, the whole way round does.
-- Assumes nothing.
use Prim.Native.Nat.{ℕ, ◌*◌, ◌-◌, ◌^◌, ◌≤◌, ◌<◌}
use mathlib.Core.Path.{◌≡◌}
use Rattle.notes.specs.Limits.{places}
use Rattle.circles.specs.Circle.{is_tie}
use Rattle.circles.proofs.around.Given as goal

-- more than a step can come to
abbrev pub big_step : ℕ
big_step = 2 ^ 40

abbrev pub invariant-loop : goal.invariant-loop
invariant-loop l =
    (l.y < places) × (is_tie l.m l.x (places - l.counter) l.y l.sum l.due ≡ is_tie l.m l.x places l.x 0 0) × (l.sum ≤ l.counter * big_step) × (l.due ≤ l.counter * big_step)
