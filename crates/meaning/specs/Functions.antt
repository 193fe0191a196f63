-- What tells one function from another: its symbol, and whether it takes one argument or two. Lines of no star, which nothing else here
-- would miss if the meaning took two functions for one.
-- Assumes nothing.
use Rattle.std.specs.Prelude.{[], ◌∷◌, pos}
use Rattle.sheet.specs.Sheet.{unknown, apply, apply2, unequal, Sheet}
use Rattle.meaning.specs.Lines.{compare}
use Rattle.meaning.specs.Judged.{HoldsAll}

-- f(x) ≠ g(x), one kind and two symbols
-- terms x, f(x), g(x)
abbrev pub line_symbols : Sheet
line_symbols = record { terms = unknown ∷ apply 7 0 ∷ apply 8 0 ∷ []; entries = compare unequal 1 2 (pos 0) ∷ [] }

-- 11. f(x) ≠ f(x, x), one symbol number for both
-- terms x, f(x), f(x, x)
abbrev pub line11 : Sheet
line11 = record { terms = unknown ∷ apply 7 0 ∷ apply2 7 0 0 ∷ []; entries = compare unequal 1 2 (pos 0) ∷ [] }

pub record FunctionsApart : Type 0 where
  pub symbols : HoldsAll line_symbols
  pub sheet11 : HoldsAll line11
