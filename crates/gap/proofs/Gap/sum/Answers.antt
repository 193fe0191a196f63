-- `gap::Gap::sum` meets its contract: a gap that is NONE gives NONE, and where both codes are odd, the half step that the sum takes off twice comes back.
-- Assumes nothing.
use Rattle.std.proofs.Common.{◌≡◌, sym, ⊎_elim, arith}
use Rattle.kind.specs.Code.{none, sum_of}
use Rattle.kind.proofs.Codes.{sum-none-left, sum-none-right, sum_is}
use Rattle.kind.proofs.Kind.{same_kind, kind-sum}
use Rattle.gap.proofs.Gap.sum.Goals as goal

pub returns-then-y-lt-NONE : goal.returns-then-y-lt-NONE
returns-then-y-lt-NONE c =
    let code = sum_is c.args.self.0 c.args.other.0 _ (omega arith) (omega arith) (omega arith) in
    record { code = code; kind = same_kind (kind-sum _ _ c.requires) code }

pub returns-else-x-lt-NONE : goal.returns-else-x-lt-NONE
returns-else-x-lt-NONE c =
    let code : none ≡ sum_of c.args.self.0 c.args.other.0 =
    ⊎_elim (λ p. sym (sum-none-right _ _ p.1)) (λ p. sym (sum-none-left _ _ p)) c.else-x-lt-NONE.either in
    record { code = code; kind = same_kind (kind-sum _ _ c.requires) code }
