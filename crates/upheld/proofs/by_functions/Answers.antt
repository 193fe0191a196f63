-- `upheld::by_functions` meets its contract: what is told at each place where it answers (proofs/Rules.antt).
-- Assumes nothing.
use Prim.Native.Nat.{ℕ}
use mathlib.Core.Bool.{not, ◌||◌}
use native.Mathlib.Omega.{arith}
use lib.Dec.{leb, eqb}
use Rattle.sheet.proofs.Decode.{terms-stated}
use Rattle.stated.specs.declared.Step.{Step as Record}
use Rattle.probes.proofs.Tests.{same}
use Rattle.upheld.proofs.Spares.{Spares, above, unless, neither}
use Rattle.upheld.proofs.Rules.{FunctionsOn, functions-off, functions-grouped, functions-told}
use Rattle.upheld.proofs.by_functions.Goals as goal

spares : (level : ℕ) (k : Record) →
    Spares (FunctionsOn level k) ((((not (eqb k.c 0) || not (eqb k.first 0)) || not (eqb k.second 0)) || leb level k.a) || leb level k.b)
spares level k = neither (neither (neither (neither (unless (same _ 0)) (unless (same _ 0))) (unless (same _ 0))) (above _ _)) (above _ _)

pub returns-then-s-zero : goal.returns-then-s-zero
returns-then-s-zero c = functions-off c.requires.0 c.args.s c.requires.1 ((spares _ c.args.s).caught c.if-s-zero.true)

pub returns-then-tied : goal.returns-then-tied
returns-then-tied c =
    functions-grouped c.requires.0 c.args.s c.requires.1 (c.if-tied.ensures)

pub term_at-f-requires : goal.term_at-f-requires
term_at-f-requires c =
    let on = (spares _ c.args.s).passed c.if-s-zero.false in
    (c.requires.0.sized, omega (arith, terms-stated c.args.sheet.now))

pub term_at-g-requires : goal.term_at-g-requires
term_at-g-requires c =
    let on = (spares _ c.args.s).passed c.if-s-zero.false in
    (c.requires.0.sized, omega (arith, terms-stated c.args.sheet.now))

pub returns : goal.returns
returns c =
    functions-told c.requires.0 c.args.s c.requires.1 ((spares _ c.args.s).passed c.if-s-zero.false)
    (c.if-tied.ensures)
    (rw (c.term_at-f.ensures, c.term_at-g.ensures) at c.same_input.ensures)
