-- `upheld::closing_walk` meets its contract: what is told at each place where it answers (proofs/Rules.antt).
-- Assumes nothing.
use Prim.Native.Nat.{ℕ}
use mathlib.Core.Path.{◌≡◌}
use mathlib.Core.Bool.{not, ◌||◌}
use native.Mathlib.Omega.{arith}
use borrow.Author.Rules.{rules}
use borrow.Author.Tests.{ne_eqb}
use lib.Dec.{ltb, eqb}
use lib.ListN.{length}
use Rattle.stated.specs.declared.Step.{Step as Record}
use Rattle.probes.proofs.Tests.{same}
use Rattle.upheld.proofs.Spares.{Spares, at_least, unless, neither}
use Rattle.upheld.proofs.Walks.{falls-here, falls-there}
use Rattle.upheld.proofs.Rules.{few-terms, RoundOn, round-off, round-nowhere, round-told}
use Rattle.upheld.proofs.closing_walk.Goals as goal

spares : (level : ℕ) (k : Record) → Spares (RoundOn level k) (((not (eqb k.b 0) || not (eqb k.c 0)) || not (eqb k.second 0)) || ltb level k.a)
spares level k = neither (neither (neither (unless (same _ 0)) (unless (same _ 0))) (unless (same _ 0))) (at_least _ _)

pub returns-then-s-zero : goal.returns-then-s-zero
returns-then-s-zero c = λ listed. round-off c.requires.0 c.args.s c.requires.1 listed ((spares _ c.args.s).caught c.if-s-zero.true)

pub returns-then-zero-s : goal.returns-then-zero-s
returns-then-zero-s c = λ listed.
    let long : length c.args.s.there ≡ 129 = search rules in
    round-nowhere c.requires.0 c.args.s c.requires.1 listed (λ i. (c.type_inv.sheet i).fits) (omega arith)
    (λ F. let l = F.few in let m = c.if-zero-s.true in omega arith)

pub walk-requires : goal.walk-requires
walk-requires c =
    let long : length c.args.s.there ≡ 129 = search rules in
    (c.requires.0.legs-size, omega (arith, few-terms c.requires.0))

pub returns-in_default : goal.returns-in_default
returns-in_default c = λ listed.
    let long : length c.args.s.there ≡ 129 = search rules in
    round-nowhere c.requires.0 c.args.s c.requires.1 listed (λ i. (c.type_inv.sheet i).fits) (omega arith) (λ F. c.in_default.ensures _ F.goes)

pub returns-then-end-s : goal.returns-then-end-s
returns-then-end-s c = λ listed.
    let long : length c.args.s.there ≡ 129 = search rules in
    round-told c.requires.0 c.args.s c.requires.1 listed (λ i. (c.type_inv.sheet i).fits) (omega arith) ((spares _ c.args.s).passed c.if-s-zero.false)
    (falls-here c.in-Some.ensures c.if-zero-s.false c.if-end-s.true c.under.ensures)

pub returns-else-end-s : goal.returns-else-end-s
returns-else-end-s c = λ listed.
    let long : length c.args.s.there ≡ 129 = search rules in
    rw (ne_eqb _ _ c.if-end-s.false)
    (round-nowhere c.requires.0 c.args.s c.requires.1 listed (λ i. (c.type_inv.sheet i).fits) (omega arith)
    (falls-there c.in-Some.ensures c.if-end-s.false))
