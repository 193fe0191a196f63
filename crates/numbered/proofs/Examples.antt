-- A text and its sheet, worked out.
-- Assumes nothing.
use mathlib.Core.Path.{◌≡◌, refl}
use mathlib.Core.List.{List, [], ◌∷◌}
use lib.IntN.{pos, negsuc}
use Rattle.sheet.specs.Sheet as Sheets
use Rattle.sheet.specs.Sheet.Relation.{equal, less}
use Rattle.text.specs.Text.{Line}
use Rattle.text.specs.Text.Sign.{plus, minus}
use Rattle.text.specs.Text.Plain.{variable, apply}
use Rattle.text.specs.Text.Arguments.{alone}
use Rattle.text.specs.Text.Term.{number, plain, shifted}
use Rattle.numbered.specs.Numbered.{sheet_of}

-- x1+0=f7(x1-0) and x1<-3: x1, x1+0, f7(x1+0), -3; x1-0 and the later x1 are met already
two-lines : List Line
two-lines =
    record { left = shifted (variable 1) plus 0; relation = equal; right = plain (apply 7 (alone (shifted (variable 1) minus 0))) } ∷
    record { left = plain (variable 1); relation = less; right = number (negsuc 2) } ∷
    []

numbered : sheet_of two-lines ≡ record {
  terms = Sheets.unknown ∷ Sheets.shift 0 (pos 0) ∷ Sheets.apply 7 1 ∷ Sheets.number (negsuc 2) ∷ [];
  entries = record { relation = equal; a = 1; b = 2; c = pos 0 } ∷ record { relation = less; a = 0; b = 3; c = pos 0 } ∷ [];
}
unfolding two-lines
numbered = refl
