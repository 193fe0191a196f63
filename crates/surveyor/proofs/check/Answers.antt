-- `surveyor::check` meets its contract.
-- Assumes nothing.
use Rattle.surveyor.proofs.Join.{check-early, check-ready, check-told}
use Rattle.surveyor.proofs.check.Goals as goal

pub go_through-requires : goal.go_through-requires
go_through-requires c =
    (check-ready _ _ _ _ _ c.prepare.ensures c.in-Ok.is).begun

pub returns-in-Err : goal.returns-in-Err
returns-in-Err c = check-early _ _ _ _ _ c.prepare.ensures _ c.in-Err.is

pub returns-in-Ok : goal.returns-in-Ok
returns-in-Ok c =
    check-told _ _ _ _ _ c.prepare.ensures c.in-Ok.is c.go_through.ensures.0
