-- Arguments and entries of a sheet are on terms of it.
-- Assumes nothing.
use Prim.Native.Nat.{ℕ, ◌≤◌, ◌<◌}
use mathlib.Core.Path.{◌≡◌}
use lib.IntN.{ℤ}
use native.Mathlib.Omega.{arith}
use Rattle.sheet.specs.Sheet.{Term, shift, apply, apply2, Entry, Sheet, count_terms, count_entries, entry_at, ArgumentsBelow, of-unknown, of_number, of_shift, of-apply, of-apply2, WellFormed}

pub arguments-wider : {i n : ℕ} {t : Term} → i ≤ n → ArgumentsBelow i t → ArgumentsBelow n t
arguments-wider l of-unknown = of-unknown
arguments-wider l of_number = of_number
arguments-wider l (of_shift {a} h) = of_shift {a = a} (omega arith)
arguments-wider l (of-apply {a = a} h) = of-apply {a = a} (omega arith)
arguments-wider l (of-apply2 {a = a} {b} h k) = of-apply2 {a = a} {b = b} (omega arith) (omega arith)

-- the arguments that a kind has
pub shifted : {n a : ℕ} {c : ℤ} → ArgumentsBelow n (shift a c) → a < n
shifted (of_shift h) = h

pub argument : {n f a : ℕ} → ArgumentsBelow n (apply f a) → a < n
argument (of-apply h) = h

pub arguments : {n f a b : ℕ} → ArgumentsBelow n (apply2 f a b) → (a < n) × (b < n)
arguments (of-apply2 h k) = (h, k)

-- x is what the code read of entry i
pub entry-below : {s : Sheet} {i : ℕ} {x : Entry} → WellFormed s → i < count_entries s → x ≡ entry_at s i
    → (x.a < count_terms s) × (x.b < count_terms s)
entry-below {i = i} wf i< is = rw is (wf.left i i<, wf.right i i<)
