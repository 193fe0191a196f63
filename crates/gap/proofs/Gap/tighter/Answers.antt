-- `gap::Gap::tighter` meets its contract: the lesser code is the tighter gap.
-- Assumes nothing.
use Rattle.std.proofs.Common.{rules}
use Rattle.kind.proofs.Kind.{same_kind, kind-tighter}
use Rattle.gap.proofs.Gap.tighter.Goals as goal

pub returns-clause-kind : goal.returns-clause-kind
returns-clause-kind c = same_kind (kind-tighter _ _) (search rules)
