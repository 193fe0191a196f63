-- The terms that a record of kind 3 or 4 makes, and no other does.
-- Assumes nothing.
use Prim.Native.Nat.{ℕ, zero, suc}
use mathlib.Core.Path.{◌≡◌, refl}
use lib.ListN.{get_or}
use native.Mathlib.Omega.{arith}
use Rattle.sheet.specs.declared.Fields.{Fields}
use Rattle.sheet.specs.Decode.{term_kinds, decode_term}
use Rattle.sheet.specs.Sheet.{unknown, apply, apply2}

pub is_one : (f : Fields) → f.kind ≡ 3 → decode_term f ≡ apply f.symbol f.a
unfolding decode_term
is_one f e = rw e

pub is-two : (f : Fields) → f.kind ≡ 4 → decode_term f ≡ apply2 f.symbol f.a f.b
unfolding decode_term
is-two f e = rw e

pub of_one : (f : Fields) {g a : ℕ} → decode_term f ≡ apply g a → (f.kind ≡ 3) × (f.symbol ≡ g) × (f.a ≡ a)
unfolding decode_term
of_one f {g} {a} = go f.kind refl
  where
    go : (k : ℕ) → f.kind ≡ k → get_or (term_kinds f) k unknown ≡ apply g a → (f.kind ≡ 3) × (f.symbol ≡ g) × (f.a ≡ a)
    go zero e h = let z : ◌≡◌ {A = ℕ} 0 1 = cc in absurd (omega arith)
    go (suc zero) e h = let z : ◌≡◌ {A = ℕ} 0 1 = cc in absurd (omega arith)
    go (suc (suc zero)) e h = let z : ◌≡◌ {A = ℕ} 0 1 = cc in absurd (omega arith)
    go (suc (suc (suc zero))) e h = (e, cc, cc)
    go (suc (suc (suc (suc zero)))) e h = let z : ◌≡◌ {A = ℕ} 0 1 = cc in absurd (omega arith)
    go (suc (suc (suc (suc (suc k))))) e h = let z : ◌≡◌ {A = ℕ} 0 1 = cc in absurd (omega arith)

pub of_two : (f : Fields) {g a b : ℕ} → decode_term f ≡ apply2 g a b → (f.kind ≡ 4) × (f.symbol ≡ g) × (f.a ≡ a) × (f.b ≡ b)
unfolding decode_term
of_two f {g} {a} {b} = go f.kind refl
  where
    go : (k : ℕ) → f.kind ≡ k → get_or (term_kinds f) k unknown ≡ apply2 g a b → (f.kind ≡ 4) × (f.symbol ≡ g) × (f.a ≡ a) × (f.b ≡ b)
    go zero e h = let z : ◌≡◌ {A = ℕ} 0 1 = cc in absurd (omega arith)
    go (suc zero) e h = let z : ◌≡◌ {A = ℕ} 0 1 = cc in absurd (omega arith)
    go (suc (suc zero)) e h = let z : ◌≡◌ {A = ℕ} 0 1 = cc in absurd (omega arith)
    go (suc (suc (suc zero))) e h = let z : ◌≡◌ {A = ℕ} 0 1 = cc in absurd (omega arith)
    go (suc (suc (suc (suc zero)))) e h = (e, cc, cc, cc)
    go (suc (suc (suc (suc (suc k))))) e h = let z : ◌≡◌ {A = ℕ} 0 1 = cc in absurd (omega arith)
