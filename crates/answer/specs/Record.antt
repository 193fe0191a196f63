-- The answer record, byte for byte after document 01's table, and answer form.
-- Assumes nothing.
use Rattle.std.specs.Prelude.{ℕ, ◌+◌, ◌*◌, ◌^◌, ◌≤◌, ◌<◌, List, [], ◌∷◌, ◌++◌, ℤ, pos, length, get_or}
use Rattle.whole.specs.Whole.{plus, minus}
use Rattle.big.specs.Big.{bytes_of, complement_of}
use Rattle.sheet.specs.Limits.{max_terms, max_entries}
use Rattle.sheet.specs.Decode.{each}
use Rattle.sheet.specs.Sheet.{Sheet, count_terms}

-- the bytes that both records begin with
abbrev pub head_length : ℕ
head_length = 8

-- one n per term, as a list
abbrev pub listed : Sheet → (ℕ → ℤ) → List ℤ
listed s n = each (count_terms s) n

-- T signed values n, two's complement, 8 bytes each
unfoldable pub values_of : List ℤ → List ℕ
values_of [] = []
values_of (n ∷ ns) = bytes_of 8 (complement_of 8 n) ++ values_of ns

-- length 8 + 8T, 1, 0, D, 0, and one n per term
unfoldable pub holds_record : (D : ℕ) (ns : List ℤ) → List ℕ
holds_record D ns = bytes_of 2 (8 + 8 * length ns) ++ (1 ∷ 0 ∷ []) ++ bytes_of 2 D ++ bytes_of 2 0 ++ values_of ns

-- length 8 + k, 1, 1, k, 0, and k entry numbers
unfoldable pub clashes_record : (es : List ℕ) → List ℕ
clashes_record es = bytes_of 2 (8 + length es) ++ (1 ∷ 1 ∷ []) ++ bytes_of 2 (length es) ++ bytes_of 2 0 ++ es

-- D is 1 to 65,535, and each n lies within plus or minus 2^40
pub record ValuesWithin (D : ℕ) (ns : List ℤ) : Type 0 where
  pub least : 1 ≤ D
  pub most : D ≤ 65535
  pub above : (i : ℕ) → i < length ns → plus (get_or ns i (pos 0)) ≤ 2 ^ 40
  pub below : (i : ℕ) → i < length ns → minus (get_or ns i (pos 0)) ≤ 2 ^ 40

-- k is at least 1, and the entry numbers rise and are below L
pub record ListWithin (L : ℕ) (es : List ℕ) : Type 0 where
  pub some : 1 ≤ length es
  pub entry : (i : ℕ) → i < length es → get_or es i 0 < L
  pub rising : (i j : ℕ) → i < j → j < length es → get_or es i 0 < get_or es j 0

-- bytes that the table and these limits allow for some T and L within their limits
pub data AnswerForm : List ℕ → Type 0 where
  holds : {D : ℕ} {ns : List ℤ} → 1 ≤ length ns → length ns ≤ max_terms → ValuesWithin D ns → AnswerForm (holds_record D ns)
  clashes : {L : ℕ} {es : List ℕ} → L ≤ max_entries → ListWithin L es → AnswerForm (clashes_record es)
