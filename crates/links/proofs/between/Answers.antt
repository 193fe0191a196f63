-- `links::between` meets its contract: the two topmost points are one or not.
-- Assumes nothing.
use Prim.Native.Nat.{ℕ}
use mathlib.Core.Path.{refl, sym, subst}
use native.Mathlib.Omega.{arith}
use Rattle.links.specs.Links.{root, Climbs}
use Rattle.links.proofs.Climbing.{gap-small}
use Rattle.links.proofs.between.Goals as goal

pub overflow_sub-result : goal.overflow_sub-result
overflow_sub-result c = let h = gap-small c.find-y.ensures in omega arith

pub overflow_add-result : goal.overflow_add-result
overflow_add-result c = let h = gap-small c.find-x.ensures in omega arith

pub returns-then-x-y : goal.returns-then-x-y
returns-then-x-y c =
    let x = c.find-x in
    let y = c.find-y in
    let args = c.args in (
      x.result.top,
      x.result.gap,
      y.result.gap,
      x.ensures,
      subst (λ (k : ℕ). Climbs args.links.now root args.j k y.result.gap) (sym c.if-x-y.true) y.ensures,
      refl,
    )

pub returns-else-x-y : goal.returns-else-x-y
returns-else-x-y c =
    let x = c.find-x in
    let y = c.find-y in
    (x.result.top, x.result.gap, y.result.top, y.result.gap, x.ensures, y.ensures, c.if-x-y.false)
