-- Bounds and applications as numbers, a point to a digit.
-- Assumes nothing.
use Rattle.std.specs.Prelude.{ℕ, ◌+◌, ◌*◌, ◌-◌, ◌^◌, Option, Some, None}
use Rattle.sheet.specs.Sheet.{Term, unknown, number, shift, apply, apply2}
use Rattle.notes.specs.Limits.{places, slacks, denominator}

-- point a is at most point b and c, less the slack; c is held biased, and counts in parts of the denominator
abbrev pub bound_of : (a b c slack : ℕ) → ℕ
bound_of a b c slack = a + places * b + places ^ 2 * (c * denominator + (slacks - 1 - slack))

-- its own number, its arguments, and its kind and symbol as one key; and a mark behind the keys, so that it is never 0, which is none
abbrev pub application_of : (i a b key : ℕ) → ℕ
application_of i a b key = 512 * places ^ 3 + i + places * a + places ^ 2 * b + places ^ 3 * key

-- what term i is noted as, where it is an application; 256 in the key says that it has one argument
abbrev pub noted_of : (i : ℕ) → Term → Option ℕ
noted_of i unknown = None
noted_of i (number c) = None
noted_of i (shift a c) = None
noted_of i (apply symbol a) = Some (application_of i a 0 (256 + symbol))
noted_of i (apply2 symbol a b) = Some (application_of i a b symbol)
