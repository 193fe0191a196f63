-- The key of a term as one number: its record, the fields behind each other, and for a variable its name. Nothing here need be believed.
-- Assumes nothing.
use Rattle.std.specs.Prelude.{ℕ, ◌+◌, ◌*◌, ◌≤◌, ◌<◌, ◌≡◌, List, [], ◌∷◌, map, length, take}
use Rattle.big.specs.Big.{complement_of}
use Rattle.sheet.specs.Limits.{max_terms}
use Rattle.sheet.specs.Sheet.{Entry}
use Rattle.written.specs.Written.{kind_of}
use Rattle.numbered.specs.Numbered.{Key}
use Rattle.numbered.specs.Within.{WholeIn}
use Rattle.numbered.specs.Numbered.Key.{of_variable, of_number, of_shift, of_apply, of_apply2}
use Rattle.met.specs.Model.{memory_cells, count_in}

-- one of each field: the kind, the symbol, a and b stand before c
abbrev pub kind_one : ℕ
kind_one = 1099511627776

abbrev pub symbol_one : ℕ
symbol_one = 4294967296

abbrev pub a_one : ℕ
a_one = 16777216

abbrev pub b_one : ℕ
b_one = 65536

-- over every record
abbrev pub names : ℕ
names = 281474976710656

abbrev pub code_of : Key → ℕ
code_of (of_variable n) = names + n
code_of (of_number c) = kind_one + complement_of 2 c
code_of (of_shift a c) = 2 * kind_one + a * a_one + complement_of 2 c
code_of (of_apply f a) = 3 * kind_one + f * symbol_one + a * a_one
code_of (of_apply2 f a b) = 4 * kind_one + f * symbol_one + a * a_one + b * b_one

-- each field fits its bytes
abbrev pub KeyIn : Key → Type 0
KeyIn (of_variable n) = n ≤ 99
KeyIn (of_number c) = WholeIn c
KeyIn (of_shift a c) = (a < 256) × WholeIn c
KeyIn (of_apply f a) = (f < 256) × (a < 256)
KeyIn (of_apply2 f a b) = (f < 256) × (a < 256) × (b < 256)

abbrev pub KeysIn : List Key → Type 0
KeysIn [] = Unit {0}
KeysIn (k ∷ ks) = KeyIn k × KeysIn ks

-- an entry's record as one number; its c is 0
abbrev pub entry_code : Entry → ℕ
entry_code e = kind_of e.relation * kind_one + e.a * a_one + e.b * b_one

-- the memory holds these terms
pub record Table (m : List ℕ) (xs : List Key) : Type 0 where
  pub cells : length m ≡ memory_cells
  pub count : count_in m ≡ length xs
  pub few : length xs ≤ max_terms
  pub held : take (length xs) m ≡ map code_of xs
  pub keys : KeysIn xs
