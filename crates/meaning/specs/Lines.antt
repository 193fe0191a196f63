-- The starred sheets of document 01: the abstract sheet that each line says. f and g have symbols 7 and 8.
-- Assumes nothing.
use Rattle.std.specs.Prelude.{ℕ, [], ◌∷◌, ℤ, pos, negsuc}
use Rattle.sheet.specs.Sheet.{unknown, number, shift, apply, apply2, Relation, equal, unequal, at_most, less, Entry, Sheet}

-- term a compared with (term b plus c)
abbrev pub compare : Relation → ℕ → ℕ → ℤ → Entry
compare relation a b c = record { relation = relation; a = a; b = b; c = c }

-- 1. x ≤ y, y ≤ x, f(x) ≠ f(y)
-- terms x, y, f(x), f(y)
abbrev pub line1 : Sheet
line1 =
    record {
      terms = unknown ∷ unknown ∷ apply 7 0 ∷ apply 7 1 ∷ [];
      entries = compare at_most 0 1 (pos 0) ∷ compare at_most 1 0 (pos 0) ∷ compare unequal 2 3 (pos 0) ∷ [];
    }

-- 2. x ≤ y, f(x) ≠ f(y)
-- terms x, y, f(x), f(y)
abbrev pub line2 : Sheet
line2 =
    record {
      terms = unknown ∷ unknown ∷ apply 7 0 ∷ apply 7 1 ∷ [];
      entries = compare at_most 0 1 (pos 0) ∷ compare unequal 2 3 (pos 0) ∷ [];
    }

-- 3. 1 ≤ x, x ≤ 2, f(x) ≠ f(1), f(x) ≠ f(2)
-- terms 1, x, 2, f(x), f(1), f(2)
abbrev pub line3 : Sheet
line3 =
    record {
      terms = number (pos 1) ∷ unknown ∷ number (pos 2) ∷ apply 7 1 ∷ apply 7 0 ∷ apply 7 2 ∷ [];
      entries = compare at_most 0 1 (pos 0) ∷ compare at_most 1 2 (pos 0) ∷ compare unequal 3 4 (pos 0) ∷ compare unequal 3 5 (pos 0) ∷ [];
    }

-- 4. x ≤ y - 1, y ≤ z - 1, and z compared with x + c
-- terms x, y, z
abbrev pub line4 : Relation → ℤ → Sheet
line4 relation c =
    record {
      terms = unknown ∷ unknown ∷ unknown ∷ [];
      entries = compare at_most 0 1 (negsuc 0) ∷ compare at_most 1 2 (negsuc 0) ∷ compare relation 2 0 c ∷ [];
    }

-- z ≤ x + 2; z < x + 2; z ≤ x + 1
abbrev pub line4a : Sheet
line4a = line4 at_most (pos 2)

abbrev pub line4b : Sheet
line4b = line4 less (pos 2)

abbrev pub line4c : Sheet
line4c = line4 at_most (pos 1)

-- 5. x < y, y < x + 1
-- terms x, y
abbrev pub line5 : Sheet
line5 =
    record {
      terms = unknown ∷ unknown ∷ [];
      entries = compare less 0 1 (pos 0) ∷ compare less 1 0 (pos 1) ∷ [];
    }

-- 6. x ≤ y, y ≤ z, z < x, x ≠ x
-- terms x, y, z
abbrev pub line6 : Sheet
line6 =
    record {
      terms = unknown ∷ unknown ∷ unknown ∷ [];
      entries = compare at_most 0 1 (pos 0) ∷ compare at_most 1 2 (pos 0) ∷ compare less 2 0 (pos 0) ∷ compare unequal 0 0 (pos 0) ∷ [];
    }

-- 7. x < x, x < x
-- terms x
abbrev pub line7 : Sheet
line7 =
    record {
      terms = unknown ∷ [];
      entries = compare less 0 0 (pos 0) ∷ compare less 0 0 (pos 0) ∷ [];
    }

-- 8. two number terms of 5, p and q, and f(p) ≠ f(q)
-- terms p, q, f(p), f(q)
abbrev pub line8 : Sheet
line8 =
    record {
      terms = number (pos 5) ∷ number (pos 5) ∷ apply 7 0 ∷ apply 7 1 ∷ [];
      entries = compare unequal 2 3 (pos 0) ∷ [];
    }

-- 9. y = x + 3, f(x plus 3) ≠ f(y)
-- terms x, y, x plus 3, f(x plus 3), f(y)
abbrev pub line9 : Sheet
line9 =
    record {
      terms = unknown ∷ unknown ∷ shift 0 (pos 3) ∷ apply 7 2 ∷ apply 7 1 ∷ [];
      entries = compare equal 1 0 (pos 3) ∷ compare unequal 3 4 (pos 0) ∷ [];
    }

-- 10a. g(x, y) ≠ g(y, x)
-- terms x, y, g(x, y), g(y, x)
abbrev pub line10a : Sheet
line10a =
    record {
      terms = unknown ∷ unknown ∷ apply2 8 0 1 ∷ apply2 8 1 0 ∷ [];
      entries = compare unequal 2 3 (pos 0) ∷ [];
    }

-- 10b. x = y, g(x, y) ≠ g(y, x)
-- terms x, y, g(x, y), g(y, x)
abbrev pub line10b : Sheet
line10b =
    record {
      terms = unknown ∷ unknown ∷ apply2 8 0 1 ∷ apply2 8 1 0 ∷ [];
      entries = compare equal 0 1 (pos 0) ∷ compare unequal 2 3 (pos 0) ∷ [];
    }
