-- `values::term` meets its contract.
-- Assumes nothing.
use Rattle.std.proofs.Common.{◌<◌, ◌≤◌, sym, arith, rules}
use Rattle.kind.specs.Code.{none}
use Rattle.levels.proofs.Rows.{term-there, term-none}
use Rattle.values.proofs.term.Goals as goal

pub returns-then-lt : goal.returns-then-lt
returns-then-lt c =
    let there : c.args.g.0 < none = search rules in
    (omega (arith, term-there c.args.other c.args.g.0 there, c.from.ensures), omega (arith, c.from.ensures))

pub returns-else-lt : goal.returns-else-lt
returns-else-lt c =
    let not-there : none ≤ c.args.g.0 = search rules in
    (sym (term-none _ _ not-there), omega arith)
