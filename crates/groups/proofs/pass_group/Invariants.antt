-- `groups::pass_group` meets its contract: the pairs before the counter's place are passed (proofs/Groups.antt).
-- Assumes nothing.
use Rattle.sheet.specs.Decode.{sheet_of}
use Rattle.groups.specs.Listed.{GroupTied}
use Rattle.pairs.proofs.Passes.{Sofar}
use Rattle.groups.proofs.pass_group.Given as goal

abbrev pub invariant-loop-q : goal.invariant-loop-q
invariant-loop-q l = Sofar l.sheet (GroupTied l.sheet l.i.0 l.keys l.least l.q) l.initial.d l.d l.fresh
