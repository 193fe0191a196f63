-- The record of a clash: the numbers of a set's entries, rising, behind a head.
-- Assumes nothing.
use Rattle.std.specs.Prelude.{ℕ, ◌+◌, ◌≤◌, ◌≡◌, List, length, get_or, take}
use Rattle.order.specs.First.{Set, Listed}
use Rattle.answer.specs.Record.{head_length, clashes_record}

-- new is old with the record of the entries of S below L in its first bytes, of which there are `size`
pub record Named (L : ℕ) (S : Set) (old new : List ℕ) (size : ℕ) : Type 0 where
  pub list : List ℕ
  pub listed : Listed L S list (length list)
  pub size_is : size ≡ head_length + length list
  pub bytes : take size new ≡ clashes_record list
  pub kept : (k : ℕ) → size ≤ k → get_or new k 0 ≡ get_or old k 0
