-- `routes::lay` meets its contract: the tie's path is the one between the two points, with the tie itself.
-- Assumes nothing.
use mathlib.Core.Path.{ap, ◌∙◌}
use mathlib.Core.Bool.{Bool, xor}
use Rattle.sets.specs.Sets.{has}
use Rattle.routes.proofs.lay.Goals as goal

pub returns : goal.returns
returns c =
    let found = c.between-path in
    record {
      path = c.difference.result;
      is = c.put.ensures;
      own = λ u. (
        has found.result u,
        found.ensures u,
        c.difference.ensures u ∙ ap (λ (own : Bool). xor own (has found.result u)) (c.only.ensures u),
      );
    }
