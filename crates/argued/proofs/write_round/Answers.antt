-- `argued::write_round` meets its contract: the needed ties, the closing walk, and the head.
-- Assumes nothing.
use Rattle.std.proofs.Common.{◌≤◌, length, arith}
use Rattle.paper.proofs.Walks.{more-ties}
use Rattle.argued.proofs.Ends.{more-names, round-ends}
use Rattle.argued.proofs.write_round.Goals as goal

pub round-end-requires : goal.round-end-requires
round-end-requires c =
    let (walk, few, e<, name) = c.requires.readable in
    let far : c.args.count ≤ length c.write_ties-kept.new.ranks = omega (arith, c.requires.writable.0, c.write_ties-kept.auto.ranks) in record {
      step_length_in_bounds = (omega (arith, c.requires.writable.0, c.write_ties-kept.ensures, c.write_ties-kept.auto.room), more-ties far walk, few);
      e_in_bounds = (e<, more-names far name);
    }

pub returns : goal.returns
returns c =
    let (walk, few, e<, name) = c.requires.readable in
    let (R, q, all) = c.write_ties-kept.ensures.ranked in
    round-ends c.args.names.now c.args.ties.now c.args.walks.now R q c.write_ties-kept.ensures.steps
    (omega (arith, c.requires.writable.0, c.write_ties-kept.ensures, c.round-end.ensures.short))
    c.args.a _ c.requires.writable.1 name walk c.round-end.ensures.step c.head.ensures
