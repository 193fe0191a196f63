-- `needed::find` meets its contract: the first x numbers of the walk are copied, and their ties marked.
-- Assumes nothing.
use Rattle.std.proofs.Common.{◌≡◌, ℕ, length-set, arith}
use Rattle.needed.proofs.Copying.{none_yet, one_more, found, walk-below}
use Rattle.needed.proofs.find.Goals as goal

pub loop-x-init : goal.loop-x-init
loop-x-init c = none_yet _ _ _ _ _

pub mark_bound-requires : goal.mark_bound-requires
mark_bound-requires c =
    let e< = walk-below c.walk-k.ensures.least (omega arith) c.loop-x-test.true in
    (omega (arith, c.requires.n_le_stride), λ h. omega (arith, c.requires.by_index _ e< h))

pub loop-x-preserved : goal.loop-x-preserved
loop-x-preserved c =
    let least = c.walk-k.ensures.least in
    one_more _ _ _ _ _ _ (omega (arith, least.few)) (omega (arith, least.few, length-set {A = ℕ})) c.loop-x.invariant c.mark_bound.ensures

pub returns-clause-found : goal.returns-clause-found
returns-clause-found c =
    let pre = c.requires.n_le_stride in
    let end : c.loop-x.x ≡ c.walk-k.result = omega arith in
    found _ _ _ _ pre.0 pre.4 (omega arith) (omega (arith, length-set {A = ℕ})) c.walk-k.ensures.least (rw end at c.loop-x.invariant)
