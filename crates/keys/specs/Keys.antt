-- The keys of a term's input. v has a level for each of t terms and, at t, the zero level.
-- Assumes nothing.
use Rattle.std.specs.Prelude.{ℕ, ◌+◌, ◌*◌, ◌-◌, ◌^◌, ◌<◌, List, get_or}
use Rattle.sheet.specs.Sheet.{Term, unknown, number, shift, apply, apply2}

-- how far term a's level is over the lowest that the limits allow
abbrev pub height : List ℕ → ℕ → ℕ → ℕ
height v t a = get_or v a 0 + 2 ^ 40 - get_or v t 0

-- the two numbers that say a term's input: its symbol, its kind and its first argument's height; its second argument's height.
-- The first is 0 for a term without an input, and for no other
abbrev pub first_key : List ℕ → ℕ → Term → ℕ
first_key v t unknown = 0
first_key v t (number c) = 0
first_key v t (shift a c) = 0
first_key v t (apply symbol a) = 1 + symbol + 512 * height v t a
first_key v t (apply2 symbol a b) = 257 + symbol + 512 * height v t a

abbrev pub second_key : List ℕ → ℕ → Term → ℕ
second_key v t unknown = 0
second_key v t (number c) = 0
second_key v t (shift a c) = 0
second_key v t (apply symbol a) = 0
second_key v t (apply2 symbol a b) = height v t b

-- a symbol is one byte, so that no two inputs have the same keys
abbrev pub SymbolFits : Term → Type 0
SymbolFits unknown = Unit
SymbolFits (number c) = Unit
SymbolFits (shift a c) = Unit
SymbolFits (apply symbol a) = symbol < 256
SymbolFits (apply2 symbol a b) = symbol < 256
