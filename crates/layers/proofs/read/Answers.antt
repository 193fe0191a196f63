-- `layers::read` meets its contract.
-- Assumes nothing.
use Rattle.std.proofs.Common.{◌≡◌, ◌+◌, ◌-◌, arith, rules}
use Rattle.layers.proofs.Best.{addable-at}
use Rattle.layers.proofs.Reading.{begin, above-is, stay, chosen, kept-or, on, done}
use Rattle.layers.proofs.read.Goals as goal

pub loop-h-init : goal.loop-h-init
loop-h-init c = begin _ _ _ _ _ _ (omega arith) c.requires.layers.1

pub find-e-requires-clause-by_index : goal.find-e-requires-clause-by_index
find-e-requires-clause-by_index c =
    let L = c.requires.layers.0 in
    addable-at _ _ c.requires.sound _ (omega arith) (omega arith) _ _ (omega (arith, L.few)) L.rows (c.loop-h.h - 1) (omega arith)

pub find-e-requires-clause-over : goal.find-e-requires-clause-over
find-e-requires-clause-over c =
    let S = c.requires.sound in
    let R = c.loop-h.invariant in
    let above : c.loop-h.h ≡ c.loop-h.h - 1 + 1 = omega arith in
    chosen _ _ S _ _ _ _ _ _ _ _ _ above R (c.requires.layers.0.rows.next (c.loop-h.h - 1) (omega arith)) _ (above-is _ _ S _ _ _ _ _ _ _ _ _ above R)
    (search rules)

pub loop-h-preserved-then-lt : goal.loop-h-preserved-then-lt
loop-h-preserved-then-lt c =
    let S = c.requires.sound in
    let L = c.requires.layers.0 in
    let R = c.loop-h.invariant in
    let found = c.find-e.ensures in
    let above : c.loop-h.h ≡ c.loop-h.h - 1 + 1 = omega arith in
    rw c.from-i.ensures (on _ _ S _ _ _ _ _ _ _ _ _ above R _ _ (above-is _ _ S _ _ _ _ _ _ _ _ _ above R)
    (addable-at _ _ S _ (omega arith) (omega arith) _ _ (omega (arith, L.few)) L.rows (c.loop-h.h - 1) (omega arith) _ found.there)
    found (omega arith))

pub loop-h-preserved : goal.loop-h-preserved
loop-h-preserved c =
    let S = c.requires.sound in
    let R = c.loop-h.invariant in
    let above : c.loop-h.h ≡ c.loop-h.h - 1 + 1 = omega arith in
    stay _ _ S _ _ _ _ _ _ _ _ _ above R
    (kept-or _ _ S _ _ _ _ _ _ _ _ _ above R (c.requires.layers.0.rows.next (c.loop-h.h - 1) (omega arith)) _ (above-is _ _ S _ _ _ _ _ _ _ _ _ above R)
    (search rules))

pub returns : goal.returns
returns c =
    done _ _ _ _ _ _ _ _ _ _ _ (omega arith) c.requires.layers.0.rows.begun c.loop-h.invariant
