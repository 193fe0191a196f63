-- `values::levels` meets its contract: after i turns, the first i levels stand, each by the formula of levels' specs/Level.antt, which fits.
-- Assumes nothing.
use Prim.Native.Nat.{ℕ, ◌+◌, ◌*◌, ◌≤◌, ◌<◌}
use mathlib.Core.Path.{◌≡◌, ◌∙◌, ap, ap₂}
use mathlib.Core.List.{List}
use lib.ListN.{length, get_or, set}
use lib.Seq.{get_or-set_same, get_or-set_other}
use native.Mathlib.Nat.{mul-le-mul}
use native.Mathlib.Omega.{arith}
use borrow.Author.Count.{below_more}
use Rattle.kind.specs.Code.{none}
use Rattle.closure.specs.Table.{reach}
use Rattle.levels.specs.Level.{sum_to, term_of, other_of, lowest_of, level_of}
use Rattle.cells.specs.Cells.{stride, cell}
use Rattle.values.proofs.levels.Goals as goal

-- the formula, from what the three loops ensure
level-is : (d : ℕ → ℕ → ℕ) (n i o t p : ℕ) → o ≡ other_of n (reach n) (d i) → t ≡ sum_to n (λ s. term_of o (d i s)) → p ≡ lowest_of d i →
    n * t + p ≡ level_of n (reach n) d i
unfolding level_of
level-is d n i o t p e f g = ap₂ (λ (t p : ℕ). n * t + p) (f ∙ ap (λ (o : ℕ). sum_to n (λ s. term_of o (d i s))) e) g

product : (n t : ℕ) → n ≤ stride → t ≤ n * none → n * t ≤ stride * (stride * none)
product n t h k = mul-le-mul {n₂ = stride} {m₂ = stride * none} h (omega arith)

more : (f : ℕ → ℕ) (v : List ℕ) (i x : ℕ) → i < length v → x ≡ f i → ((k : ℕ) → k < i → get_or v k 0 ≡ f k) → (k : ℕ) → k < i + 1 → get_or (set v i x) k 0 ≡ f k
more f v i x l e h = below_more _ i (λ k p. get_or-set_other v i k x 0 (omega arith) ∙ h k p) (get_or-set_same v i x 0 l ∙ e)

pub overflow_mul-v : goal.overflow_mul-v
overflow_mul-v c = omega (arith, product _ _ (omega arith) c.total.ensures.1)

pub overflow_add-v : goal.overflow_add-v
overflow_add-v c = omega (arith, product _ _ (omega arith) c.total.ensures.1)

pub loop-i-preserved : goal.loop-i-preserved
loop-i-preserved c =
    more _ c.loop-i.v c.loop-i.i _ (omega arith)
    (level-is (cell c.args.d.now) _ _ _ _ _ (omega arith) c.total.ensures.0 c.lowest.ensures.0)
    c.loop-i.invariant
