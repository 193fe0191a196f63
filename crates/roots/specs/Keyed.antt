-- One point for all that a table ties together at 0, and by such points one number for all terms that it gives the same input.
-- Assumes nothing.
use Rattle.std.specs.Prelude.{ℕ, ◌+◌, ◌*◌, ◌≤◌, ◌<◌, ◌≡◌, ℤ, pos}
use Rattle.closure.specs.Closed.{TiedAt}
use Rattle.sheet.specs.Sheet.{Term, unknown, number, shift, apply, apply2}

-- r is the lowest point that a is tied to at 0
pub record Root (d : ℕ → ℕ → ℕ) (a r : ℕ) : Type 0 where
  pub within : r ≤ a
  pub tied : TiedAt d a r (pos 0)
  pub lowest : (p : ℕ) → p < r → TiedAt d a p (pos 0) → ⊥

-- the key of a term's input: its symbol and kind, and in a byte each the roots of its arguments; 0 for a term without an input
pub data Keyed (d : ℕ → ℕ → ℕ) : Term → ℕ → Type 0 where
  for-unknown : Keyed d unknown 0
  for-number : {c : ℤ} → Keyed d (number c) 0
  for-shift : {a : ℕ} {c : ℤ} → Keyed d (shift a c) 0
  for-apply : {symbol a r key : ℕ} → Root d a r → key ≡ (1 + 2 * symbol) * 65536 + r → Keyed d (apply symbol a) key
  for-apply2 : {symbol a b r s key : ℕ} → Root d a r → Root d b s → key ≡ (2 + 2 * symbol) * 65536 + 256 * r + s
      → Keyed d (apply2 symbol a b) key
