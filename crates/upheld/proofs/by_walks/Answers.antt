-- `upheld::by_walks` meets its contract: what is told at each place where it answers (proofs/Rules.antt).
-- Assumes nothing.
use Prim.Native.Nat.{ℕ}
use mathlib.Core.Path.{◌≡◌}
use mathlib.Core.Bool.{Bool, not, ◌||◌}
use native.Mathlib.Omega.{arith}
use borrow.Author.Rules.{rules}
use lib.Dec.{ltb}
use lib.ListN.{length}
use Rattle.big.specs.Big.{signed_of}
use Rattle.meaning.specs.Decides.{Decides}
use Rattle.reasons.specs.Rules.{TieWithin}
use Rattle.stated.specs.declared.Step.{Step as Record}
use Rattle.upheld.proofs.Spares.{Spares, at_least, unless, neither}
use Rattle.upheld.proofs.Rules.{few-terms, WalksOn, walks-off, walks-grouped, walks-nowhere, walks-told}
use Rattle.upheld.proofs.by_walks.Goals as goal

spares : (level : ℕ) (k : Record) {w : Bool} → Decides (TieWithin (signed_of 8 k.c)) w → Spares (WalksOn level k) ((ltb level k.a || ltb level k.b) || not w)
spares level k W = neither (neither (at_least _ _) (at_least _ _)) (unless W)

pub returns-then-zero-s : goal.returns-then-zero-s
returns-then-zero-s c =
    walks-off c.requires.0 c.args.s c.requires.1 ((spares _ c.args.s c.within.ensures).caught c.if-zero-s.true)

pub returns-then-tied : goal.returns-then-tied
returns-then-tied c = walks-grouped c.requires.0 c.args.s c.requires.1 c.if-tied.ensures

pub goes_to-requires : goal.goes_to-requires
goes_to-requires c =
    let long : length c.args.s.there ≡ 129 = search rules in
    (c.requires.0.legs-size, omega arith, few-terms c.requires.0)

pub goes_to-requires-then-goes_to : goal.goes_to-requires-then-goes_to
goes_to-requires-then-goes_to c =
    let long : length c.args.s.back ≡ 129 = search rules in
    (c.requires.0.legs-size, omega arith, few-terms c.requires.0)

pub returns-then-goes_to : goal.returns-then-goes_to
returns-then-goes_to c =
    let there-long : length c.args.s.there ≡ 129 = search rules in
    let back_long : length c.args.s.back ≡ 129 = search rules in
    walks-told c.requires.0 c.args.s c.requires.1 (λ i. (c.type_inv.sheet i).fits) (omega arith) (omega arith)
    ((spares _ c.args.s c.within.ensures).passed c.if-zero-s.false) c.if-tied.ensures (c.goes_to.ensures.yes c.if-goes_to.true)
    c.goes_to-then-goes_to.ensures

pub returns-else-goes_to : goal.returns-else-goes_to
returns-else-goes_to c =
    let long : length c.args.s.there ≡ 129 = search rules in
    rw c.if-goes_to.false
    (walks-nowhere c.requires.0 c.args.s c.requires.1 (λ i. (c.type_inv.sheet i).fits) (omega arith) (c.goes_to.ensures.no c.if-goes_to.false))
