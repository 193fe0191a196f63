-- What two replies to one sheet and one room have in common, where both keep the promise: all but the choice of values.
-- Assumes nothing.
use Rattle.std.specs.Prelude.{ℕ, ◌≡◌, List, take, drop}

-- two rooms that differ in D and the values at most
pub record ButForValues (P : ℕ) (new new' : List ℕ) : Type 0 where
  pub head : take 4 new ≡ take 4 new'
  pub zero : take 2 (drop 6 new) ≡ take 2 (drop 6 new')
  pub past : drop P new ≡ drop P new'

-- what one of two replies to a sheet says, the other says
pub record OneReply (N P : ℕ) (new : List ℕ) (N' P' : ℕ) (new' : List ℕ) : Type 0 where
  pub number : N ≡ N'
  pub place : P ≡ P'
  pub room : (N ≡ 0 → ⊥) → new ≡ new'
  pub values : N ≡ 0 → ButForValues P new new'
