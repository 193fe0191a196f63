-- The levels that a closed table gives its points: one formula, no search. All whole numbers stand from the bias `half` up.
-- Assumes nothing.
use Rattle.std.specs.Prelude.{ℕ, zero, suc, ◌+◌, ◌*◌, ◌/◌, min, Bool, cond, ltb, ℤ}
use Rattle.std.proofs.Math.IntN.{sub_ℕ}
use Rattle.kind.specs.Code.{none, half}
use Rattle.closure.specs.Closed.{tie}

-- the whole number of a code, strict or not
abbrev pub whole_at : ℕ → ℕ
whole_at g = (g + 1) / 2

-- the sum of the first n
unfoldable pub sum_to : ℕ → (ℕ → ℕ) → ℕ
sum_to zero f = 0
sum_to (suc n) f = sum_to n f + f n

-- the least of 0 and the first n
unfoldable pub least_to : ℕ → (ℕ → ℕ) → ℕ
least_to zero f = half
least_to (suc n) f = min (least_to n f) (f n)

-- the first of k, k + 1, .. that passes, or k + m
unfoldable pub first : (ℕ → Bool) → ℕ → ℕ → ℕ
first t zero k = k
first t (suc m) k = cond (t k) k (first t m (suc k))

-- the least whole number of a row: a cell that is none has a larger one
abbrev pub least_of : ℕ → (ℕ → ℕ) → ℕ
least_of N row = least_to N (λ s. whole_at (row s))

-- the whole number of a gap that is there, or another number
unfoldable pub term_of : ℕ → ℕ → ℕ
term_of other g = cond (ltb g none) (whole_at g) other

-- what stands where there is no gap: 2 R + 1 above the row's least
abbrev pub other_of : ℕ → ℕ → (ℕ → ℕ) → ℕ
other_of N R row = R + R + 1 + least_of N row

-- a row's sum
abbrev pub total_of : ℕ → ℕ → (ℕ → ℕ) → ℕ
total_of N R row = sum_to N (λ s. term_of (other_of N R row) (row s))

-- the lowest point that i is tied with
abbrev pub lowest_of : (ℕ → ℕ → ℕ) → ℕ → ℕ
lowest_of d i = first (λ k. tie (d i k) (d k i)) i 0

-- the level of point i, in parts of N * N
unfoldable pub level_of : ℕ → ℕ → (ℕ → ℕ → ℕ) → ℕ → ℕ
level_of N R d i = N * total_of N R (d i) + lowest_of d i

-- the same, less the level of point z
abbrev pub value_of : ℕ → ℕ → (ℕ → ℕ → ℕ) → ℕ → ℕ → ℤ
value_of N R d z i = sub_ℕ (level_of N R d i) (level_of N R d z)
