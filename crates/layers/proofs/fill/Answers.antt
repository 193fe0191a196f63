-- `layers::fill` meets its contract.
-- Assumes nothing.
use Rattle.std.proofs.Common.{arith, rules}
use Rattle.cells.proofs.Keeps.{kept_on}
use Rattle.layers.proofs.Best.{asked-addable, more, stopped}
use Rattle.layers.proofs.fill.Goals as goal

pub relax-requires-clause-by_index_2 : goal.relax-requires-clause-by_index_2
relax-requires-clause-by_index_2 c =
    asked-addable _ _ c.requires.sound _ (omega arith) (omega arith) _ _ _ (omega arith) c.loop-h.invariant.0 c.copy.ensures.copied

pub returns-then-not-relax-clause-layers : goal.returns-then-not-relax-clause-layers
returns-then-not-relax-clause-layers c =
    stopped _ _ c.requires.sound _ (omega arith) (omega arith) _ _ _ (omega arith) c.loop-h.invariant.0 c.copy.ensures.copied _ _ c.relax.ensures.row
    (search rules)

pub loop-h-preserved : goal.loop-h-preserved
loop-h-preserved c =
    let C = c.copy.ensures in
    let O = c.relax.ensures in (
      more _ _ c.requires.sound _ (omega arith) (omega arith) _ _ _ (omega arith) c.loop-h.invariant.0 C.copied _ _ O.row,
      kept_on c.loop-h.invariant.1 (kept_on C.kept O.kept),
    )
