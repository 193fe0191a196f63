-- A relation made of a kind is what the kind decodes to, arm by arm.
-- Assumes nothing.
use Prim.Native.Nat.{ℕ, zero, suc}
use mathlib.Core.Path.{◌≡◌, refl, sym, ap}
use Rattle.sheet.specs.Sheet.{equal}
use Rattle.sheet.specs.Decode.{relation_of}
use Rattle.sheet.proofs.RelationFromU8.from.Goals as goal

-- the last arm: a kind that no other arm has
relation-other : (k : ℕ) → (k ≡ 1 → ⊥) → (k ≡ 2 → ⊥) → (k ≡ 3 → ⊥) → relation_of k ≡ equal
unfolding relation_of
relation-other zero p q r = refl
relation-other (suc zero) p q r = absurd (p refl)
relation-other (suc (suc zero)) p q r = absurd (q refl)
relation-other (suc (suc (suc zero))) p q r = absurd (r refl)
relation-other (suc (suc (suc (suc k)))) p q r = refl

pub returns-in-1 : goal.returns-in-1
unfolding relation_of
returns-in-1 c = sym (ap relation_of c.in-1.is)

pub returns-in-2 : goal.returns-in-2
unfolding relation_of
returns-in-2 c = sym (ap relation_of c.in-2.is)

pub returns-in-3 : goal.returns-in-3
unfolding relation_of
returns-in-3 c = sym (ap relation_of c.in-3.is)

pub returns-in_default : goal.returns-in_default
returns-in_default c = let o = c.in_default.in_default-own.rest in sym (relation-other _ o.0.0.1 o.0.1 o.1)
