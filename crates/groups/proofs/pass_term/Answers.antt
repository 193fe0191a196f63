-- `groups::pass_term` meets its contract: those that have the term's input stand right below its place (proofs/Groups.antt).
-- Assumes nothing.
use native.Mathlib.Omega.{arith}
use Rattle.sorted.proofs.Inserted.{ascending-fewer, ascending-more}
use Rattle.pairs.specs.Passing.{still}
use Rattle.pairs.proofs.Passes.{passing-map}
use Rattle.groups.proofs.Groups.{group-passed, none_passed}
use Rattle.groups.proofs.pass_term.Goals as goal

pub returns-then-key-eq0-clause-passing : goal.returns-then-key-eq0-clause-passing
returns-then-key-eq0-clause-passing c = still (none_passed c.key_at-key.ensures.0 c.if-key-eq0.true)

pub pass_group-requires-clause-place_in_bounds : goal.pass_group-requires-clause-place_in_bounds
pass_group-requires-clause-place_in_bounds c =
    let I = c.insert-place.ensures in
    (omega (arith, I.within, c.formed.ensures.terms), ascending-fewer (omega (arith, I.within)) (ascending-more I c.requires.keys_len.1), λ q l. omega (arith, I.lower q l))

pub returns-clause-passing : goal.returns-clause-passing
returns-clause-passing c =
    passing-map _ (group-passed c.key_at-key.ensures.0 c.insert-place.ensures c.formed.ensures c.requires.d_len.1.closed c.requires.i_bound) c.pass_group.ensures
