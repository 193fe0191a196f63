-- `upheld::closing_entry` meets its contract: what is told at each place where it answers (proofs/Rules.antt).
-- Assumes nothing.
use Prim.Native.Nat.{ℕ}
use mathlib.Core.Path.{◌≡◌, refl, ◌∙◌, ap}
use mathlib.Core.Bool.{not, ◌||◌}
use native.Mathlib.Omega.{arith}
use lib.Dec.{leb, eqb}
use Rattle.order.specs.First.{marked}
use Rattle.sheet.specs.Sheet.{unequal, Entry}
use Rattle.sheet.specs.declared.Relation.{Relation as Code-Relation}
use Rattle.sheet.specs.declared.Relation.TheVariants.{Equal, Unequal, AtMost, Less}
use Rattle.sheet.specs.Says.{relation_says, entry_says}
use Rattle.sheet.proofs.Decode.{entries-stated}
use Rattle.stated.specs.declared.Step.{Step as Record}
use Rattle.probes.proofs.Tests.{same}
use Rattle.upheld.proofs.Spares.{Spares, above, unless, neither}
use Rattle.upheld.proofs.Rules.{EntryOn, entry-off, entry-unlisted, entry_other, entry-told}
use Rattle.upheld.proofs.closing_entry.Goals as goal

-- the last arm: the relations that aren't ≠
other : (r : Code-Relation) → (r ≡ Unequal → ⊥) → relation_says r ≡ unequal → ⊥
other Equal k e = cc
other Unequal k e = k refl
other AtMost k e = cc
other Less k e = cc

spares : (entries : ℕ) (k : Record) →
    Spares (EntryOn entries k) ((((not (eqb k.b 0) || not (eqb k.c 0)) || not (eqb k.first 0)) || not (eqb k.second 0)) || leb entries k.a)
spares entries k = neither (neither (neither (neither (unless (same _ 0)) (unless (same _ 0))) (unless (same _ 0))) (unless (same _ 0))) (above _ _)

pub returns-then-s-sheet : goal.returns-then-s-sheet
returns-then-s-sheet c = entry-off c.requires.0 c.args.s c.requires.2 _ ((spares _ c.args.s).caught c.if-s-sheet.true)

pub returns-then-not-listed-s : goal.returns-then-not-listed-s
returns-then-not-listed-s c = entry-unlisted c.requires.0 c.args.s c.requires.2 (marked c.args.listed.now) c.if-not-listed-s.true

pub entry_at-entry-requires : goal.entry_at-entry-requires
entry_at-entry-requires c =
    let on = (spares _ c.args.s).passed c.if-s-sheet.false in
    (c.requires.0.sized, omega (arith, entries-stated c.args.sheet.now))

pub returns-in-Unequal : goal.returns-in-Unequal
returns-in-Unequal c =
    entry-told c.requires.0 c.args.s c.requires.2 (marked c.args.listed.now) (entry_says c.entry_at-entry.result) (λ i. (c.type_inv.sheet i).fits)
    ((spares _ c.args.s).passed c.if-s-sheet.false) c.if-not-listed-s.false c.entry_at-entry.ensures
    (ap relation_says c.in-Unequal.is) c.gap_of.ensures.0 c.tied_at.ensures

pub returns-in_default : goal.returns-in_default
returns-in_default c =
    entry_other c.requires.0 c.args.s c.requires.2 (marked c.args.listed.now)
    (λ e. other c.entry_at-entry.result.relation c.in_default.not-Unequal (ap (λ (x : Entry). x.relation) c.entry_at-entry.ensures ∙ e))
