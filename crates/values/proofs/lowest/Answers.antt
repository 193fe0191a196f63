-- `values::lowest` meets its contract: the answer is what the look-up from k on finds.
-- Assumes nothing.
use Prim.Native.Nat.{ℕ, ◌+◌, ◌≤◌, ◌<◌}
use mathlib.Core.Path.{◌≡◌, refl, sym, ◌∙◌}
use mathlib.Core.Bool.{Bool, true, false, cond}
use Rattle.std.proofs.Common.{arith, rules}
use Rattle.kind.specs.Code.{none}
use Rattle.closure.specs.Closed.{tie, tie_of}
use Rattle.closure.proofs.Ties.{tie-tied}
use Rattle.cells.specs.Cells.{cell}
use Rattle.values.proofs.Loops.{first-here, first_on, first-end}
use Rattle.values.proofs.lowest.Invariants.{from}
use Rattle.values.proofs.lowest.Goals as goal

found : (d : ℕ → ℕ → ℕ) (i k r : ℕ) → k < i → r ≡ tie_of d i k → r < none → from d i k ≡ k
found d i k r l e h = first-here _ i k l (go (tie (d i k) (d k i)) (omega arith))
  where
    go : (b : Bool) → cond b (d i k) none < none → b ≡ true
    go true p = refl
    go false p = absurd (omega arith)

-- a gap back of more than 0 leaves a tie below none
passed : (d : ℕ → ℕ → ℕ) (i k r : ℕ) → k < i → 0 < d k i → r ≡ tie_of d i k → none ≤ r → from d i k ≡ from d i (k + 1)
passed d i k r l b e h = first_on _ i k l (go (tie (d i k) (d k i)) refl (omega arith))
  where
    go : (t : Bool) → tie (d i k) (d k i) ≡ t → none ≤ cond t (d i k) none → t ≡ false
    go true f p = absurd (omega (arith, tie-tied d i k f))
    go false f p = refl

pub returns-then-lt : goal.returns-then-lt
returns-then-lt c =
    let there : c.tied.result.0 < none = search rules in
    (sym (c.loop-k.invariant ∙ found (cell c.args.d.now) _ _ _ (omega arith) c.tied.ensures there), omega arith)

pub loop-k-preserved : goal.loop-k-preserved
loop-k-preserved c =
    let untied : none ≤ c.tied.result.0 = search rules in
    c.loop-k.invariant ∙ passed (cell c.args.d.now) _ _ _ (omega arith) (c.requires.2 c.loop-k.k (omega arith)) c.tied.ensures untied

pub returns : goal.returns
returns c = (sym (c.loop-k.invariant ∙ first-end _ _ _ (omega arith) (omega arith)), omega arith)
