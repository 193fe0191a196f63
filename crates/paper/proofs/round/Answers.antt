-- `paper::round` meets its contract: the step's head, the bound, and the walk of the ending.
-- Assumes nothing.
use lib.ListN.{get_or}
use native.Mathlib.Omega.{arith}
use Rattle.sketch.specs.Sketch.{ending, bound_named}
use Rattle.paper.specs.Written.{ranked_bound}
use Rattle.paper.proofs.Heads.{head-length}
use Rattle.paper.proofs.Walks.{bound-length}
use Rattle.paper.proofs.Steps.{round-written}
use Rattle.paper.proofs.round.Goals as goal

pub bound-then-requires : goal.bound-then-requires
bound-then-requires c =
    (omega (arith, c.requires.step_length_in_bounds.0, simp head-length at c.step-at.ensures.end_is, c.step-at.auto.room), c.requires.e_in_bounds.1)

pub walk-requires : goal.walk-requires
walk-requires c = (
  omega (
    arith,
    c.requires.step_length_in_bounds.0,
    c.requires.step_length_in_bounds.2,
    simp head-length at c.step-at.ensures.end_is,
    c.step-at.auto.room,
    simp bound-length at c.bound-then.ensures.end_is,
    c.bound-then.auto.room,
  ),
  c.requires.step_length_in_bounds.1,
)

pub returns : goal.returns
returns c =
    let both = round-written c.args.a (ranked_bound c.args.ranks.now (bound_named (get_or c.args.names.now c.args.e 0))) c.args.ranks.now c.args.names.now c.args.walks.now ending
    c.requires.step_length_in_bounds.1 c.step-at.ensures c.bound-then.ensures c.walk.ensures in
    record { step = both.0; short = both.1 }
