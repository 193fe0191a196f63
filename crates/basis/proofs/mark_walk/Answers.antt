-- `basis::mark_walk` meets its contract: the entries of the names before the counter are marked (proofs/Marking.antt).
-- Assumes nothing.
use Prim.Native.Nat.{◌<◌}
use native.Mathlib.Omega.{arith}
use lib.ListN.{length-set}
use Rattle.std.proofs.lemmas.List.{get_or-take, length-take}
use Rattle.basis.proofs.Marking.{added-entry, added-other}
use Rattle.basis.proofs.mark_walk.Goals as goal
use Rattle.basis.proofs.mark_walk.Goals.{then-name-lt-TERM, else-name-lt-TERM}

pub loop-name-preserved : goal.loop-name-preserved
loop-name-preserved c =
    let x = c.loop-name.name-index in
    let within : x < c.args.count = omega (arith, length-take c.args.count c.args.bounds.now) in
    let same = get_or-take c.args.count c.args.bounds.now x 0 within in
    let (size, added) = c.loop-name.invariant in
    elim c.if-name-lt-TERM.branch [
      | then-name-lt-TERM w ↦ rw (w.entries-is, same) (simp length-set size, added-entry added (omega (arith, same, w.if-name-lt-TERM.true)) (omega arith))
      | else-name-lt-TERM w ↦ rw w.entries-is (size, added-other added (omega (arith, same, w.if-name-lt-TERM.false)))
    ]
