-- What is wrong with a sheet, after the rows of document 01's refusal table: its length, its version, its shape, a term, an entry; and, after
-- document 02, a symbol used with one argument and with two.
-- Assumes nothing.
use Rattle.std.specs.Prelude.{ℕ, zero, suc, Bool, true, false, not, cond, ◌||◌, List, [], ◌∷◌, ltb, leb, eqb, length, get_or}
use Rattle.big.specs.Big.{big_of}
use Rattle.sheet.specs.declared.Fields.{Fields}
use Rattle.sheet.specs.Limits.{max_terms, max_entries, sheet_length}
use Rattle.sheet.specs.Sheet.{Term, unknown, number, shift, apply, apply2, Sheet, term_at}
use Rattle.sheet.specs.Decode.{byte_at, stated_terms, stated_entries, term_place, entry_place, fields_at}

abbrev pub non_zero : ℕ → Bool
non_zero x = not (eqb x 0)

abbrev pub not_below : ℕ → ℕ → Bool
not_below a n = leb n a

-- fewer than 6 bytes lent, or bytes 0-1 don't state the lent length
unfoldable pub wrong_length : List ℕ → Bool
wrong_length b = ltb (length b) 6 || not (eqb (big_of b 0 2) (length b))

-- version isn't 1
unfoldable pub wrong_version : List ℕ → Bool
wrong_version b = not (eqb (byte_at b 2) 1)

-- T is 0 or over its limit, L over its limit, byte 5 not 0, or length not 6 + 6T + 6L
unfoldable pub wrong_shape : List ℕ → Bool
wrong_shape b =
    let T = stated_terms b in
    let L = stated_entries b in
    eqb T 0 || ltb max_terms T || ltb max_entries L || non_zero (byte_at b 5) || not (eqb (length b) (sheet_length T L))

-- of each kind, 0 to 4: a non-zero unused field, or an argument not below the term's own number i
abbrev pub wrong_kinds : ℕ → Fields → List Bool
wrong_kinds i f =
    (non_zero f.symbol || non_zero f.a || non_zero f.b || non_zero f.c) ∷
    (non_zero f.symbol || non_zero f.a || non_zero f.b) ∷
    (non_zero f.symbol || non_zero f.b || not_below f.a i) ∷
    (non_zero f.b || non_zero f.c || not_below f.a i) ∷
    (non_zero f.c || not_below f.a i || not_below f.b i) ∷
    []

-- or a kind over 4
unfoldable pub wrong_term : ℕ → Fields → Bool
wrong_term i f = get_or (wrong_kinds i f) f.kind true

-- kind over 3, a non-zero second byte, or a or b not below T
unfoldable pub wrong_entry : ℕ → Fields → Bool
wrong_entry T f = ltb 3 f.kind || non_zero f.symbol || not_below f.a T || not_below f.b T

unfoldable pub wrong_term_of : List ℕ → ℕ → Bool
wrong_term_of b i = wrong_term i (fields_at b (term_place i))

unfoldable pub wrong_entry_of : List ℕ → ℕ → Bool
wrong_entry_of b e = wrong_entry (stated_terms b) (fields_at b (entry_place b e))

-- a term uses the symbol with one argument; with two
abbrev pub with_one : ℕ → Term → Bool
with_one symbol unknown = false
with_one symbol (number c) = false
with_one symbol (shift a c) = false
with_one symbol (apply f a) = eqb f symbol
with_one symbol (apply2 f a b) = false

abbrev pub with_two : ℕ → Term → Bool
with_two symbol unknown = false
with_two symbol (number c) = false
with_two symbol (shift a c) = false
with_two symbol (apply f a) = false
with_two symbol (apply2 f a b) = eqb f symbol

-- the second term uses the symbol of the first with the other count of arguments
abbrev pub other_count : Term → Term → Bool
other_count unknown t = false
other_count (number c) t = false
other_count (shift a c) t = false
other_count (apply symbol a) t = with_two symbol t
other_count (apply2 symbol a b) t = with_one symbol t

-- one of the numbers below n is so
unfoldable pub some_below : ℕ → (ℕ → Bool) → Bool
some_below zero p = false
some_below (suc n) p = some_below n p || p n

-- an earlier term uses the symbol of term i with the other count of arguments
unfoldable pub other_count_in : Sheet → ℕ → Bool
other_count_in s i = some_below i (λ j. other_count (term_at s i) (term_at s j))

-- the lowest number below n that is wrong, or n where none is
unfoldable pub lowest : ℕ → (ℕ → Bool) → ℕ
lowest zero wrong = 0
lowest (suc n) wrong = cond (wrong 0) 0 (suc (lowest n (λ i. wrong (suc i))))
