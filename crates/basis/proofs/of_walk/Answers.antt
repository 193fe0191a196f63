-- `basis::of_walk` meets its contract: the set has the ties of the names before the counter (proofs/Having.antt).
-- Assumes nothing.
use Prim.Native.Nat.{◌<◌}
use mathlib.Core.Path.{refl}
use native.Mathlib.Omega.{arith}
use Rattle.std.proofs.lemmas.List.{get_or-take, length-take}
use Rattle.basis.proofs.Having.{adds-tie, adds-other}
use Rattle.basis.proofs.of_walk.Goals as goal
use Rattle.basis.proofs.of_walk.Goals.{then-name-ge-TIE, else-name-ge-TIE}

pub only-requires : goal.only-requires
only-requires c =
    let x = c.loop-name.name-index in
    let within : x < c.args.count = omega (arith, length-take c.args.count c.args.bounds.now) in
    let same = get_or-take c.args.count c.args.bounds.now x 0 within in
    rw same (c.requires.1 _ (record { at = x; within = within; sort = omega (arith, same, c.if-name-ge-TIE.true); number = refl }))

pub loop-name-preserved : goal.loop-name-preserved
loop-name-preserved c =
    let x = c.loop-name.name-index in
    let within : x < c.args.count = omega (arith, length-take c.args.count c.args.bounds.now) in
    let same = get_or-take c.args.count c.args.bounds.now x 0 within in
    let D = c.loop-name.invariant in
    elim c.if-name-ge-TIE.branch [
      | then-name-ge-TIE w ↦ rw w.ties-is (adds-tie D w.only.result (omega (arith, same, w.if-name-ge-TIE.true)) (rw same at w.only.ensures) w.either-ties.ensures)
      | else-name-ge-TIE w ↦ rw w.ties-is (adds-other D (omega (arith, same, w.if-name-ge-TIE.false)))
    ]
