-- `rows::wrong_term` meets its contract, arm by arm.
-- Assumes nothing.
use Prim.Native.Nat.{ℕ, zero, suc}
use mathlib.Core.Path.{◌≡◌, refl, sym}
use mathlib.Core.Bool.{true}
use lib.ListN.{get_or}
use Rattle.sheet.specs.declared.Fields.{Fields}
use Rattle.grounds.specs.Rows.{wrong_term, wrong_kinds}
use Rattle.rows.proofs.wrong_term.Goals as goal

-- the last arm: a kind over 4
wrong-other : (i : ℕ) (f : Fields) → (f.kind ≡ 0 → ⊥) → (f.kind ≡ 1 → ⊥) → (f.kind ≡ 2 → ⊥) → (f.kind ≡ 3 → ⊥) → (f.kind ≡ 4 → ⊥)
    → wrong_term i f ≡ true
unfolding wrong_term
wrong-other i f = go f.kind
  where
    go : (k : ℕ) → (k ≡ 0 → ⊥) → (k ≡ 1 → ⊥) → (k ≡ 2 → ⊥) → (k ≡ 3 → ⊥) → (k ≡ 4 → ⊥) → get_or (wrong_kinds i f) k true ≡ true
    go zero p q r s t = absurd (p refl)
    go (suc zero) p q r s t = absurd (q refl)
    go (suc (suc zero)) p q r s t = absurd (r refl)
    go (suc (suc (suc zero))) p q r s t = absurd (s refl)
    go (suc (suc (suc (suc zero)))) p q r s t = absurd (t refl)
    go (suc (suc (suc (suc (suc k))))) p q r s t = refl

pub returns-in-0 : goal.returns-in-0
unfolding wrong_term
returns-in-0 c = rw c.in-0.is

pub returns-in-1 : goal.returns-in-1
unfolding wrong_term
returns-in-1 c = rw c.in-1.is

pub returns-in-2 : goal.returns-in-2
unfolding wrong_term
returns-in-2 c = rw c.in-2.is

pub returns-in-3 : goal.returns-in-3
unfolding wrong_term
returns-in-3 c = rw c.in-3.is

pub returns-in-4 : goal.returns-in-4
unfolding wrong_term
returns-in-4 c = rw c.in-4.is

pub returns-in_default : goal.returns-in_default
returns-in_default c = let o = c.in_default.in_default-own.rest in sym (wrong-other _ _ o.0.0.0.0.1 o.0.0.0.1 o.0.0.1 o.0.1 o.1)
