-- `gap::Gap::whole` meets its contract: no step wraps, and the code is that of up - down.
-- Assumes nothing.
use Rattle.std.proofs.Common.{arith}
use Rattle.kind.proofs.Kind.{same_kind, kind-whole}
use Rattle.gap.proofs.Gap.whole.Goals as goal

pub returns-clause-kind : goal.returns-clause-kind
returns-clause-kind c = same_kind (kind-whole _ _ (omega arith) (omega arith)) (omega arith)
