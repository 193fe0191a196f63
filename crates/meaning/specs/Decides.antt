-- What a test answers.
-- Assumes nothing.
use Rattle.std.specs.Prelude.{◌≡◌, Bool, true, false}

-- yes exactly when A
pub record Decides (A : Type 0) (answer : Bool) : Type 0 where
  pub yes : answer ≡ true → A
  pub no : answer ≡ false → A → ⊥
