-- `needed::gather` meets its contract: what the needed ties from t on rest on is found (proofs/Gathering.antt).
-- Assumes nothing.
use Rattle.cells.specs.Cells.{Kept}
use Rattle.settled.specs.Settled.{points}
use Rattle.needed.proofs.Gathering.{From}
use Rattle.needed.proofs.gather.Given as goal

abbrev pub invariant-loop-t : goal.invariant-loop-t
invariant-loop-t l =
    From l.sheet l.list l.names l.ties l.t l.count l.initial.walks l.walks l.initial.need l.need
    × Kept (points l.sheet) l.initial.best l.best
