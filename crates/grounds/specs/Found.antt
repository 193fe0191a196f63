-- What a search for the lowest wrong number comes to: none below n is wrong, or i is the lowest.
-- Assumes nothing.
use Rattle.std.specs.Prelude.{ℕ, ◌<◌, ◌≡◌, Bool}
use Rattle.grounds.specs.Rows.{lowest}

abbrev pub NoneWrong : ℕ → (ℕ → Bool) → Type 0
NoneWrong n wrong = lowest n wrong ≡ n

abbrev pub LowestWrong : ℕ → (ℕ → Bool) → ℕ → Type 0
LowestWrong n wrong i = (i ≡ lowest n wrong) × (i < n)
