-- `gathered::next` meets its contract. Assumes nothing.
use borrow.Author.Rules.{rules}
use Rattle.gathered.proofs.Finding.{found, not_found}
use Rattle.gathered.proofs.next.Goals as goal

pub returns-in_err-t : goal.returns-in_err-t
returns-in_err-t c =
    rw c.from_residual.ensures
    (not_found c.args.ties c.args.walked.now c.without.result c.at-before.ensures c.without.ensures c.args.from c.in_err-t.ensures)

pub returns : goal.returns
returns c =
    rw c.put.ensures
    (found c.args.ties c.args.walked.now c.without.result c.at-before.ensures c.without.ensures c.args.from _ _ c.in_ok-t.ensures
    (search rules) c.only.ensures c.either.ensures)
