-- Two terms that have an input have the same one exactly when both their keys are equal.
-- Assumes nothing.
use Prim.Native.Nat.{ℕ, ◌+◌, ◌*◌, ◌-◌, ◌^◌, ◌<◌}
use mathlib.Core.Path.{◌≡◌, sym, ap}
use mathlib.Core.List.{List}
use lib.IntN.{sub_ℕ}
use lib.ListN.{get_or}
use native.Mathlib.Omega.{arith}
use Rattle.whole.specs.Whole.{plus, minus}
use Rattle.whole.proofs.Parts.{sub_parts}
use Rattle.sheet.specs.Sheet.{Term, unknown, number, shift, apply, apply2, ArgumentsBelow}
use Rattle.sheet.proofs.Below.{argument, arguments}
use Rattle.meaning.specs.Meaning.{SameInput, one, two}
use Rattle.answer.specs.Levels.{value_at}
use Rattle.keys.specs.Ready.{Near}
use Rattle.keys.specs.Keys.{height, first_key, second_key, SymbolFits}

-- two values are equal where their levels are
pub level-same : (x y z : ℕ) → sub_ℕ x z ≡ sub_ℕ y z → x ≡ y
level-same x y z e = omega (arith, sub_parts x z, sub_parts y z, ap plus e, ap minus e)

-- the parts of a first key
symbol-same : (f g h k : ℕ) → f < 256 → g < 256 → f + 512 * h ≡ g + 512 * k → f ≡ g
symbol-same f g h k f< g< e = omega arith

height-same : (f g h k : ℕ) → f < 256 → g < 256 → f + 512 * h ≡ g + 512 * k → h ≡ k
height-same f g h k f< g< e = omega arith

-- an application to one term and one to two
kinds-apart : (f g h k : ℕ) → f < 256 → g < 256 → 1 + f + 512 * h ≡ 257 + g + 512 * k → ⊥
kinds-apart f g h k f< g< e = omega arith

module _ (v : List ℕ) (t : ℕ) where
  -- arguments that have equal values
  abbrev Alike : ℕ → ℕ → Type 0
  Alike a b = value_at v t a ≡ value_at v t b

  high : (a b : ℕ) → Alike a b → height v t a ≡ height v t b
  high a b e = ap (λ (x : ℕ). x + 2 ^ 40 - get_or v t 0) (level-same _ _ _ e)

  -- from the same input to equal keys
  pub same_keys : {x y : Term} → SameInput Alike x y → (0 < first_key v t y) × (first_key v t x ≡ first_key v t y) × (second_key v t x ≡ second_key v t y)
  same_keys (one {a = a} {a'} p) = (omega arith, omega (arith, high a a' p), omega arith)
  same_keys (two {a = a} {b} {a'} {b'} p q) = (omega arith, omega (arith, high a a' p), high b b' q)

  module _ (N : Near v t) where
    alike : (a b : ℕ) → a < t → b < t → height v t a ≡ height v t b → Alike a b
    alike a b a< b< e = let z : get_or v a 0 ≡ get_or v b 0 = omega (arith, N.below a a<, N.below b b<) in rw z

    same-one : (g h a b : ℕ) → a < t → b < t → g < 256 → h < 256 → g + 512 * height v t a ≡ h + 512 * height v t b
        → SameInput Alike (apply g a) (apply h b)
    same-one g h a b a< b< g< h< e =
        rw (symbol-same g h (height v t a) (height v t b) g< h< e)
        (one (alike a b a< b< (height-same g h (height v t a) (height v t b) g< h< e)))

    same-two : (g h a b a' b' : ℕ) → (a < t) × (a' < t) → (b < t) × (b' < t) → g < 256 → h < 256
        → g + 512 * height v t a ≡ h + 512 * height v t b → height v t a' ≡ height v t b' → SameInput Alike (apply2 g a a') (apply2 h b b')
    same-two g h a b a' b' a< b< g< h< e f =
        rw (symbol-same g h (height v t a) (height v t b) g< h< e)
        (two (alike a b a<.0 b<.0 (height-same g h (height v t a) (height v t b) g< h< e)) (alike a' b' a<.1 b<.1 f))

    -- and back, from equal keys of which the first isn't 0
    pub same-input : (x y : Term) → ArgumentsBelow t x → ArgumentsBelow t y → SymbolFits x → SymbolFits y
        → 0 < first_key v t y → first_key v t x ≡ first_key v t y → second_key v t x ≡ second_key v t y → SameInput Alike x y
    same-input unknown y A B s r p e f = absurd (omega arith)
    same-input (number c) y A B s r p e f = absurd (omega arith)
    same-input (shift a c) y A B s r p e f = absurd (omega arith)
    same-input (apply g a) unknown A B s r p e f = absurd (omega arith)
    same-input (apply g a) (number c) A B s r p e f = absurd (omega arith)
    same-input (apply g a) (shift b c) A B s r p e f = absurd (omega arith)
    same-input (apply g a) (apply h b) A B s r p e f = same-one g h a b (argument A) (argument B) s r (omega arith)
    same-input (apply g a) (apply2 h b b') A B s r p e f = absurd (kinds-apart g h (height v t a) (height v t b) s r e)
    same-input (apply2 g a a') unknown A B s r p e f = absurd (omega arith)
    same-input (apply2 g a a') (number c) A B s r p e f = absurd (omega arith)
    same-input (apply2 g a a') (shift b c) A B s r p e f = absurd (omega arith)
    same-input (apply2 g a a') (apply h b) A B s r p e f = absurd (kinds-apart h g (height v t b) (height v t a) r s (sym e))
    same-input (apply2 g a a') (apply2 h b b') A B s r p e f = same-two g h a b a' b' (arguments A) (arguments B) s r (omega arith) f
