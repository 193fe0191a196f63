-- `basis::rests` meets its contract, kind by kind: what each of its calls asks a right step has, and the set that they make has what it
-- rests on (proofs/Resting.antt).
-- Assumes nothing.
use mathlib.Core.Path.{◌≡◌}
use mathlib.Core.Logic.{inl, inr}
use lib.ListN.{length}
use native.Mathlib.Omega.{arith}
use borrow.Author.Rules.{rules}
use Rattle.basis.proofs.Resting.{entry-within, terms-rest, applied, inputs-rest, named-few, walks-few, walks-rest}
use Rattle.basis.proofs.rests.Goals as goal

pub between_inputs-requires : goal.between_inputs-requires
between_inputs-requires c =
    let pre = c.requires in
    let A = applied pre.0.well-formed pre.1.stands c.in-1.is in
    (pre.0, A.0, A.1)

pub between_terms-requires : goal.between_terms-requires
between_terms-requires c =
    let pre = c.requires in
    (pre.0, entry-within pre.0.well-formed pre.1.stands c.in-3.is)

pub of_walk-first-requires : goal.of_walk-first-requires
of_walk-first-requires c =
    let few = walks-few c.requires.0.well-formed c.requires.1.stands (search rules) (search rules) in
    let long : length c.args.s.there ≡ 129 = search rules in
    (omega (arith, few), λ t A. named-few c.requires.0.well-formed c.requires.1.stands (inl A))

pub of_walk-second-requires : goal.of_walk-second-requires
of_walk-second-requires c =
    let few = walks-few c.requires.0.well-formed c.requires.1.stands (search rules) (search rules) in
    let long : length c.args.s.back ≡ 129 = search rules in
    (omega (arith, few), λ t A. named-few c.requires.0.well-formed c.requires.1.stands (inr A))

pub returns-in-1 : goal.returns-in-1
returns-in-1 c =
    let wf = c.requires.0.well-formed in
    λ listed steps m legs n S. inputs-rest wf S c.in-1.is c.between_inputs.ensures

pub returns-in-3 : goal.returns-in-3
returns-in-3 c =
    let wf = c.requires.0.well-formed in
    λ listed steps m legs n S. terms-rest wf S c.in-3.is c.between_terms.ensures

pub returns-in_default : goal.returns-in_default
returns-in_default c =
    λ listed steps m legs n S.
    walks-rest c.requires.0.well-formed S (search rules) (search rules) c.of_walk-first.ensures
    c.of_walk-second.ensures c.either.ensures
