-- `layers::read` meets its contract.
-- Assumes nothing.
use Rattle.layers.specs.Bounds.{bounds}
use Rattle.layers.proofs.Reading.{Reading}
use Rattle.layers.proofs.read.Given as goal

abbrev pub invariant-loop-h : goal.invariant-loop-h
invariant-loop-h l = Reading (bounds l.m l.list) l.n l.best l.a l.last l.initial.out l.out l.k l.i l.h
