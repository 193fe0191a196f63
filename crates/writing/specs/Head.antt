-- The eight bytes that both answer records begin with, line by line of document 01's table.
-- Assumes nothing.
use Rattle.std.specs.Prelude.{◌≡◌, ℕ, List, slice_index_or}
use Rattle.big.specs.Big.{big_of, Kept}

-- new is old with a head: the record's length, 1, the verdict, which is 0 for holds and 1 for clashes, the count, which is D or k, and 0
pub record Headed (old new : List ℕ) (size verdict count : ℕ) : Type 0 where
  pub size_is : big_of new 0 2 ≡ size
  pub one-is : slice_index_or new 2 0 ≡ 1
  pub verdict-is : slice_index_or new 3 0 ≡ verdict
  pub count-is : big_of new 4 2 ≡ count
  pub zero_is : big_of new 6 2 ≡ 0
  pub kept : Kept old new 0 8
