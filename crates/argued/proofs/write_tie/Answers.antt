-- `argued::write_tie` meets its contract: the needed ties, the tie of the ending, the closing entry, and the head.
-- Assumes nothing.
use Rattle.std.proofs.Common.{◌≤◌, length, arith}
use Rattle.paper.proofs.Heads.{head-length}
use Rattle.paper.proofs.Walks.{more-ties}
use Rattle.argued.proofs.Ends.{tie-ends}
use Rattle.argued.proofs.write_tie.Goals as goal

pub by_walks-tied-requires : goal.by_walks-tied-requires
by_walks-tied-requires c =
    let (there, back) = c.requires.readable in
    let far : c.args.count ≤ length c.write_ties-kept.new.ranks = omega (arith, c.requires.writable.0, c.write_ties-kept.auto.ranks) in
    (omega (arith, c.requires.writable.0, c.write_ties-kept.ensures, c.write_ties-kept.auto.room), more-ties far there, more-ties far back)

pub head-requires : goal.head-requires
head-requires c =
    omega (
      arith,
      c.requires.writable,
      c.write_ties-kept.ensures,
      c.write_ties-kept.auto.room,
      c.by_walks-tied.ensures.short,
      c.by_walks-tied.auto.room,
      simp head-length at c.step-end.ensures.end_is,
      c.step-end.auto.room,
    )

pub returns : goal.returns
returns c =
    let (writable, few, h, h') = c.requires.writable in
    let (there, back) = c.requires.readable in
    let (R, q, all) = c.write_ties-kept.ensures.ranked in
    tie-ends c.args.names.now c.args.ties.now c.args.walks.now R q c.write_ties-kept.ensures.steps
    (omega (arith, c.requires.writable, c.write_ties-kept.ensures, c.by_walks-tied.ensures.short, simp head-length at c.step-end.ensures.end_is))
    c.args.a c.args.b _ c.args.e.0 h h' there back c.by_walks-tied.ensures.step c.step-end.ensures c.head.ensures
