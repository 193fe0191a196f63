-- What the meaning says of each starred line: that it holds, or which list of entries is the first that clashes.
-- Assumes nothing.
use Rattle.std.specs.Prelude.{ℕ, ◌≤◌, List, [], ◌∷◌, ℤ}
use Rattle.order.specs.First.{every, set_of}
use Rattle.sheet.specs.Sheet.{Sheet}
use Rattle.meaning.specs.Meaning.{Meet, Holds, Clashes, FirstClash}
use Rattle.meaning.specs.Lines

abbrev pub HoldsAll : Sheet → Type 0
HoldsAll line = Holds line every

pub record ClashesFirst (line : Sheet) (list : List ℕ) : Type 0 where
  pub first : FirstClash line (set_of list)

pub record Judged : Type 0 where
  pub sheet1 : ClashesFirst Lines.line1 (0 ∷ 1 ∷ 2 ∷ [])
  pub sheet2 : HoldsAll Lines.line2
  pub sheet3 : HoldsAll Lines.line3
  pub sheet4a : HoldsAll Lines.line4a
  pub sheet4b : ClashesFirst Lines.line4b (0 ∷ 1 ∷ 2 ∷ [])
  pub sheet4c : ClashesFirst Lines.line4c (0 ∷ 1 ∷ 2 ∷ [])
  pub sheet5 : HoldsAll Lines.line5
  -- with D at least 2
  pub sheet5-finer : (D : ℕ) (n : ℕ → ℤ) → Meet Lines.line5 every D n → 2 ≤ D
  pub sheet6 : ClashesFirst Lines.line6 (0 ∷ 1 ∷ 2 ∷ [])
  -- 3 alone clashes too, and is shorter, but isn't the first list
  pub sheet6-alone : Clashes Lines.line6 (set_of (3 ∷ []))
  pub sheet6-not-first : ClashesFirst Lines.line6 (3 ∷ []) → ⊥
  pub sheet7 : ClashesFirst Lines.line7 (0 ∷ [])
  pub sheet8 : ClashesFirst Lines.line8 (0 ∷ [])
  pub sheet9 : ClashesFirst Lines.line9 (0 ∷ 1 ∷ [])
  pub sheet10a : HoldsAll Lines.line10a
  pub sheet10b : ClashesFirst Lines.line10b (0 ∷ 1 ∷ [])
