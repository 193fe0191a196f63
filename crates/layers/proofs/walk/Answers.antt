-- `layers::walk` meets its contract.
-- Assumes nothing.
use Rattle.std.proofs.Common.{arith}
use Rattle.layers.proofs.Best.{found, written}
use Rattle.layers.proofs.walk.Goals as goal

pub read-requires-clause-layers : goal.read-requires-clause-layers
read-requires-clause-layers c =
    let L = c.fill-h.ensures.layers in
    let way = c.requires.reachable.way in
    (L, found _ _ c.requires.sound _ (omega arith) (omega arith) _ _ L way.walk way.few)

pub returns-clause-least : goal.returns-clause-least
returns-clause-least c =
    written _ _ c.requires.sound _ (omega arith) (omega arith) _ _ _ _ _ _ c.fill-h.ensures.layers c.read.ensures
