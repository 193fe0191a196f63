-- `roots::key_of` meets its contract, kind by kind.
-- Assumes nothing.
use mathlib.Core.Path.{refl}
use native.Mathlib.Omega.{arith}
use Rattle.roots.specs.Keyed.{for-apply, for-apply2}
use Rattle.roots.proofs.Arms.{no-input}
use Rattle.roots.proofs.key_of.Goals as goal

pub returns-in-Apply : goal.returns-in-Apply
returns-in-Apply c =
    let root = c.root_of.ensures in
    rw c.in-Apply.is (for-apply root refl, omega (arith, root.within))

pub returns-in-Apply2 : goal.returns-in-Apply2
returns-in-Apply2 c =
    let first = c.root_of-in-Apply2.ensures in
    let second = c.root_of-in-Apply2-2.ensures in
    rw c.in-Apply2.is (for-apply2 first second refl, omega (arith, first.within, second.within))

pub returns-in_default : goal.returns-in_default
returns-in_default c = no-input _ c.args.t c.in_default.not-Apply c.in_default.not-Apply2
