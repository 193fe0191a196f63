-- `routes::between` meets its contract: it has what one of the two ways up has and the other hasn't.
-- Assumes nothing.
use mathlib.Core.Path.{sym, subst}
use Rattle.routes.specs.Routes.{FromBoth, both}
use Rattle.routes.proofs.between.Goals as goal

pub returns : goal.returns
returns c = λ u.
    let args = c.args in
    subst (FromBoth args.links.now args.paths.now u args.i args.j) (sym (c.difference.ensures u))
    (both (c.upwards-x.ensures u) (c.upwards-y.ensures u))
