-- `circles::around` meets its contract: what the way from y on comes to, the whole way round does.
-- Assumes nothing.
use Prim.Native.Nat.{ℕ, suc, ◌+◌, ◌-◌}
use mathlib.Core.Bool.{false}
use mathlib.Core.Path.{◌≡◌, sym, ◌∙◌}
use mathlib.Core.List.{List}
use lib.Dec.{eqb}
use native.Mathlib.Omega.{arith}
use borrow.Author.Tests.{eq-eqb, ne_eqb}
use Rattle.std.proofs.lemmas.Bool.{cond-true, cond-false}
use Rattle.notes.specs.Limits.{places}
use Rattle.circles.specs.Circle.{next_of, step_of, even_step, is_tie}
use Rattle.circles.proofs.around.Goals as goal

-- a step of is_tie: x comes round here, or further on; or no step is left
module _ (m : List ℕ) (x y sum due : ℕ) where
  here : (left less : ℕ) → left ≡ suc less → next_of m y ≡ x → is_tie m x left y sum due ≡ eqb (sum + step_of m y) (due + even_step)
  here left less l e = rw l (cond-true _ _ _ (eq-eqb (next_of m y) x e))

  further : (left less : ℕ) → left ≡ suc less → (next_of m y ≡ x → ⊥) →
      is_tie m x left y sum due ≡ is_tie m x less (next_of m y) (sum + step_of m y) (due + even_step)
  further left less l e = rw l (cond-false _ _ _ (ne_eqb (next_of m y) x e))

  over : (left : ℕ) → left ≡ 0 → is_tie m x left y sum due ≡ false
  over left l = rw l

pub returns-then-y-x : goal.returns-then-y-x
returns-then-y-x c =
    let loop = c.loop in
    sym (here c.args.m.now c.args.x loop.y loop.sum loop.due (places - loop.counter) (places - (loop.counter + 1)) (omega arith) c.if-y-x.true) ∙ loop.invariant.1

pub loop-preserved : goal.loop-preserved
loop-preserved c =
    let loop = c.loop in (
      omega arith,
      sym (further c.args.m.now c.args.x loop.y loop.sum loop.due (places - loop.counter) (places - (loop.counter + 1)) (omega arith) c.if-y-x.false) ∙ loop.invariant.1,
      omega arith,
      omega arith,
    )

pub returns : goal.returns
returns c =
    let loop = c.loop in
    sym (over c.args.m.now c.args.x loop.y loop.sum loop.due (places - loop.counter) (omega arith)) ∙ loop.invariant.1
