-- `layers::copy` meets its contract: the cells before the counter's are copied.
-- Assumes nothing.
use Rattle.std.proofs.Common.{◌+◌, arith}
use Rattle.cells.proofs.Keeps.{kept-all}
use Rattle.layers.proofs.Rows.{copied_none, copied_more, kept_set}
use Rattle.layers.proofs.copy.Goals as goal

pub loop-i-init : goal.loop-i-init
loop-i-init c = (copied_none _ _, kept-all _ _)

pub loop-i-preserved : goal.loop-i-preserved
loop-i-preserved c = (
  copied_more _ _ _ _ _ _ (omega arith) (omega arith) (omega arith) (omega arith) c.loop-i.invariant.0,
  kept_set _ (c.args.h + 1) c.loop-i.i _ _ (omega arith) (omega arith) (omega arith) (omega arith) c.loop-i.invariant.1,
)
