-- A term made of a record's fields is what they decode to, arm by arm.
-- Assumes nothing.
use Prim.Native.Nat.{ℕ, zero, suc}
use mathlib.Core.Path.{◌≡◌, refl, sym}
use lib.ListN.{get_or}
use Rattle.sheet.specs.declared.Fields.{Fields}
use Rattle.sheet.specs.Sheet.{unknown}
use Rattle.sheet.specs.Decode.{term_kinds, decode_term}
use Rattle.sheet.proofs.TermFromFields.from.Goals as goal

-- the last arm: a kind that no other arm has
term-other : (f : Fields) → (f.kind ≡ 1 → ⊥) → (f.kind ≡ 2 → ⊥) → (f.kind ≡ 3 → ⊥) → (f.kind ≡ 4 → ⊥) → decode_term f ≡ unknown
unfolding decode_term
term-other f = go f.kind
  where
    go : (k : ℕ) → (k ≡ 1 → ⊥) → (k ≡ 2 → ⊥) → (k ≡ 3 → ⊥) → (k ≡ 4 → ⊥) → get_or (term_kinds f) k unknown ≡ unknown
    go zero p q r s = refl
    go (suc zero) p q r s = absurd (p refl)
    go (suc (suc zero)) p q r s = absurd (q refl)
    go (suc (suc (suc zero))) p q r s = absurd (r refl)
    go (suc (suc (suc (suc zero)))) p q r s = absurd (s refl)
    go (suc (suc (suc (suc (suc k))))) p q r s = refl

pub returns-in-1 : goal.returns-in-1
unfolding decode_term
returns-in-1 c = rw (c.in-1.is, c.biased_of.ensures)

pub returns-in-2 : goal.returns-in-2
unfolding decode_term
returns-in-2 c = rw (c.in-2.is, c.biased_of-in-2.ensures)

pub returns-in-3 : goal.returns-in-3
unfolding decode_term
returns-in-3 c = rw c.in-3.is

pub returns-in-4 : goal.returns-in-4
unfolding decode_term
returns-in-4 c = rw c.in-4.is

pub returns-in_default : goal.returns-in_default
returns-in_default c = let o = c.in_default.in_default-own.rest in sym (term-other _ o.0.0.0.1 o.0.0.1 o.0.1 o.1)
