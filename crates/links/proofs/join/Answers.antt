-- `links::join` meets its contract: the links of the two topmost points are as written, and no other.
-- Assumes nothing.
use Prim.Native.Nat.{ℕ, ◌+◌, ◌≤◌}
use mathlib.Core.Path.{◌≡◌, ◌∙◌, ap₂}
use mathlib.Core.List.{List}
use lib.ListN.{set}
use native.Mathlib.Omega.{arith}
use mir.Syntax.{w64}
use mir.Val.{Fits}
use Rattle.legs.specs.Legs.{range}
use Rattle.links.specs.Links.{first_below, second_below}
use Rattle.links.proofs.Climbing.{gap-small}
use Rattle.links.proofs.join.Goals as goal

-- sums of gaps fit
two-fit : {a b : ℕ} → a ≤ range → b ≤ range → Fits w64 (a + b)
two-fit p q = record { fits = omega arith }

three-fit : {a b c : ℕ} → a ≤ range → b ≤ range → c ≤ range → Fits w64 (a + b + c)
three-fit p q r = record { fits = omega arith }

-- links of which two are written, by what was to be written there
hung : (links : List ℕ) {new : List ℕ} (below above : ℕ) {p p' q q' : ℕ} → new ≡ set (set links below p) above q → p ≡ p' → q ≡ q' →
    new ≡ set (set links below p') above q'
hung links below above e f g = e ∙ ap₂ (λ (p q : ℕ). set (set links below p) above q) f g

pub overflow_add-c : goal.overflow_add-c
overflow_add-c c = two-fit (omega (arith, c.requires.2)) (omega (arith, gap-small c.find-y.ensures))

pub overflow_sub-x : goal.overflow_sub-x
overflow_sub-x c = omega (arith, gap-small c.find-x.ensures)

pub overflow_add-c-then-left-right : goal.overflow_add-c-then-left-right
overflow_add-c-then-left-right c = three-fit (omega (arith, c.requires.2)) (omega (arith, gap-small c.find-y.ensures)) (omega arith)

pub overflow_sub-c : goal.overflow_sub-c
overflow_sub-c c = omega (arith, c.requires.2)

pub overflow_add-x : goal.overflow_add-x
overflow_add-x c = two-fit (omega (arith, gap-small c.find-x.ensures)) (omega arith)

pub overflow_sub-y : goal.overflow_sub-y
overflow_sub-y c = omega (arith, gap-small c.find-y.ensures)

pub overflow_add-x-else-left-right : goal.overflow_add-x-else-left-right
overflow_add-x-else-left-right c = three-fit (omega (arith, gap-small c.find-x.ensures)) (omega arith) (omega arith)

pub returns-then-left-right : goal.returns-then-left-right
returns-then-left-right c =
    first_below c.find-x.ensures c.find-y.ensures (omega arith)
    (hung c.args.links.now c.find-x.result.top c.find-y.result.top c.hang.ensures c.word-link.ensures c.topmost-top.ensures)

pub returns-else-left-right : goal.returns-else-left-right
returns-else-left-right c =
    second_below c.find-x.ensures c.find-y.ensures (omega arith)
    (hung c.args.links.now c.find-y.result.top c.find-x.result.top c.hang-else-left-right.ensures c.word-link-else-left-right.ensures c.topmost-top.ensures)
