-- `paper::by_walks` meets its contract: the step's head, and its walks behind it.
-- Assumes nothing.
use native.Mathlib.Omega.{arith}
use Rattle.big.specs.Big.{signed_of}
use Rattle.paper.proofs.Heads.{head-length}
use Rattle.paper.proofs.Walks.{place-bytes}
use Rattle.paper.proofs.Steps.{by-walks-written}
use Rattle.paper.proofs.by_walks.Goals as goal

pub walk-back-requires : goal.walk-back-requires
walk-back-requires c =
    (omega (arith, c.requires.0, c.requires.1.short, simp head-length at c.step-there.ensures.end_is, c.step-there.auto.room), c.requires.1)

pub walk-requires : goal.walk-requires
walk-requires c =
    let args = c.args in (
      omega (
        arith,
        c.requires.0,
        c.requires.1.short,
        c.requires.2.short,
        simp head-length at c.step-there.ensures.end_is,
        c.step-there.auto.room,
        c.walk-back.ensures.end_is,
        place-bytes args.ranks.now args.names.now args.walks.now args.at c.requires.1,
        c.walk-back.auto.room,
      ),
      c.requires.2,
    )

pub returns : goal.returns
returns c =
    let args = c.args in
    let both = by-walks-written args.a args.b (signed_of 8 args.c) args.ranks.now args.names.now args.walks.now args.at c.requires.1 c.requires.2 c.step-there.ensures
    c.walk-back.ensures c.walk.ensures in
    record { step = both.0; short = both.1 }
