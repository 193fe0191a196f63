-- `gap::Gap::strict` meets its contract: no step wraps, and the code is that of up - down, strict.
-- Assumes nothing.
use Rattle.std.proofs.Common.{arith}
use Rattle.kind.proofs.Kind.{same_kind, kind-strict-of}
use Rattle.gap.proofs.Gap.strict.Goals as goal

pub returns-clause-kind : goal.returns-clause-kind
returns-clause-kind c = same_kind (kind-strict-of _ _ (omega arith) (omega arith)) (omega arith)
