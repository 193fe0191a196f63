-- `laid::lay` meets its contract: a turn for each tie of functions (proofs/Turn.antt).
-- Assumes nothing.
use Rattle.std.proofs.Common.{◌≡◌, ℕ, ◌+◌, ◌≤◌, ap, arith}
use Rattle.laid.proofs.Laying.{none_yet, named, both-listed, function-tie, bound-there}
use Rattle.laid.proofs.Turn.{room, turned}
use Rattle.laid.proofs.lay.Goals as goal

pub loop-e-init : goal.loop-e-init
loop-e-init c = (omega (arith, c.requires.function_ties.listed-is), none_yet (ap (λ (k : ℕ). k + 1) c.count_terms-n.ensures.count.0) c.start.ensures)

pub bounds-list-e : goal.bounds-list-e
bounds-list-e c = bound-there c.loop-e.invariant.1 c.requires.function_ties c.loop-e-test.true

pub bounds-list-e-in-loop-e : goal.bounds-list-e-in-loop-e
bounds-list-e-in-loop-e c = bound-there c.loop-e.invariant.1 c.requires.function_ties c.loop-e-test.true

pub arguments-t-requires-clause-i_bound : goal.arguments-t-requires-clause-i_bound
arguments-t-requires-clause-i_bound c =
    let F = function-tie c.loop-e.invariant.1 c.requires.function_ties c.loop-e-test.true in
    rw (c.from-i.ensures, c.from-j.ensures) (F.left<, F.right<, record { d = F.d; joined = F.joined })

pub overflow_cast-names : goal.overflow_cast-names
overflow_cast-names c =
    omega (
      arith,
      room c.count_terms-n.ensures.formed (ap (λ (k : ℕ). k + 1) c.count_terms-n.ensures.count.0) c.loop-e.invariant.1 c.requires.function_ties c.loop-e-test.true c.from-i.ensures
          c.from-j.ensures c.arguments-t.ensures,
    )

pub overflow_add-names : goal.overflow_add-names
overflow_add-names c =
    omega (
      arith,
      room c.count_terms-n.ensures.formed (ap (λ (k : ℕ). k + 1) c.count_terms-n.ensures.count.0) c.loop-e.invariant.1 c.requires.function_ties c.loop-e-test.true c.from-i.ensures
          c.from-j.ensures c.arguments-t.ensures,
    )

pub overflow_cast-names-in-loop-e : goal.overflow_cast-names-in-loop-e
overflow_cast-names-in-loop-e c =
    omega (
      arith,
      room c.count_terms-n.ensures.formed (ap (λ (k : ℕ). k + 1) c.count_terms-n.ensures.count.0) c.loop-e.invariant.1 c.requires.function_ties c.loop-e-test.true c.from-i.ensures
          c.from-j.ensures c.arguments-t.ensures,
    )

pub overflow_add-names-in-loop-e-2 : goal.overflow_add-names-in-loop-e-2
overflow_add-names-in-loop-e-2 c =
    omega (
      arith,
      room c.count_terms-n.ensures.formed (ap (λ (k : ℕ). k + 1) c.count_terms-n.ensures.count.0) c.loop-e.invariant.1 c.requires.function_ties c.loop-e-test.true c.from-i.ensures
          c.from-j.ensures c.arguments-t.ensures,
    )

pub push-t-requires-clause-ties_len : goal.push-t-requires-clause-ties_len
push-t-requires-clause-ties_len c =
    omega (
      arith,
      c.count_terms-n.ensures.formed.terms,
      room c.count_terms-n.ensures.formed (ap (λ (k : ℕ). k + 1) c.count_terms-n.ensures.count.0) c.loop-e.invariant.1 c.requires.function_ties c.loop-e-test.true c.from-i.ensures
          c.from-j.ensures c.arguments-t.ensures,
    )

pub push-t-requires-clause-a_lt_n : goal.push-t-requires-clause-a_lt_n
push-t-requires-clause-a_lt_n c =
    let F = function-tie c.loop-e.invariant.1 c.requires.function_ties c.loop-e-test.true in
    omega (arith, F.left<, F.right<, c.from-i.ensures, c.from-j.ensures)

pub loop-e-preserved : goal.loop-e-preserved
loop-e-preserved c =
    let two : c.loop-e.e + 2 ≤ c.args.listed = both-listed c.loop-e.invariant.1 c.requires.function_ties c.loop-e-test.true in (
      two,
      turned c.count_terms-n.ensures.formed (ap (λ (k : ℕ). k + 1) c.count_terms-n.ensures.count.0) c.loop-e.invariant.1 c.requires.function_ties c.loop-e-test.true c.from-i.ensures
          c.from-j.ensures c.arguments-t.ensures (omega arith) (named c.loop-e.names (omega arith)) c.push-t.ensures,
    )

-- the loop ends behind the turn of the last two bounds
pub returns-2 : goal.returns-2
returns-2 c =
    let two : c.loop-e.e + 2 ≤ c.args.listed = both-listed c.loop-e.invariant.1 c.requires.function_ties c.loop-e-test.true in
    let end : c.loop-e.e + 2 ≡ c.args.listed = omega arith in
    rw end at
    (turned c.count_terms-n.ensures.formed (ap (λ (k : ℕ). k + 1) c.count_terms-n.ensures.count.0) c.loop-e.invariant.1 c.requires.function_ties c.loop-e-test.true c.from-i.ensures
    c.from-j.ensures c.arguments-t.ensures (omega arith) (named c.loop-e.names (omega arith)) c.push-t.ensures).laid
