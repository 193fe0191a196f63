-- `met::enter` meets its contract: keys are looked at from the front, and one that is at no place goes behind them.
-- Assumes nothing.
use mathlib.Core.Path.{refl, sym, ◌∙◌}
use native.Mathlib.Omega.{arith}
use Rattle.met.proofs.Place.{found, missed, told-met, told-full, told-new}
use Rattle.met.proofs.enter.Goals as goal

pub returns-in-Some : goal.returns-in-Some
returns-in-Some c =
    let args = c.args in
    let there = found args.m.now args.key (omega arith) (sym c.find.ensures ∙ c.in-Some.is) in
    rw (told-met args.m.now args.key args.e there.0 there.1) (record { answer = refl; memory = refl })

pub returns-then-count-ge-MAX_TERMS : goal.returns-then-count-ge-MAX_TERMS
returns-then-count-ge-MAX_TERMS c =
    let args = c.args in
    rw (told-full args.m.now args.key args.e (missed args.m.now args.key (omega arith) (sym c.find.ensures ∙ c.in_default.is)) (omega arith)) (record { answer = refl; memory = refl })

pub returns : goal.returns
returns c =
    let args = c.args in
    rw (told-new args.m.now args.key args.e (missed args.m.now args.key (omega arith) (sym c.find.ensures ∙ c.in_default.is)) (omega arith)) (record { answer = refl; memory = refl })
