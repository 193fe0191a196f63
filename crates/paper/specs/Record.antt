-- The reason record, byte for byte.
-- Assumes nothing.
use Rattle.std.specs.Prelude.{ℕ, suc, ◌+◌, ◌*◌, ◌<◌, ◌≡◌, Result, MatchResult, List, [], ◌∷◌, ◌++◌, length, ℤ, pos}
use Rattle.big.specs.Big.{bytes_of, complement_of}
use Rattle.sheet.specs.Limits.{max_terms, max_entries}
use Rattle.reasons.specs.Step.{Bound, entry, entry_back, term, term_back, tie, tie_back, Step, by_walks, by_functions, closing_walk, closing_entry}
use Rattle.paper.specs.declared.StepKind.{StepKind}
use Rattle.paper.specs.declared.UnknownKind.{UnknownKind}
use Rattle.paper.specs.declared.StepKind.TheVariants.{ByWalks, ByFunctions, ClosingWalk, ClosingEntry}

-- a bound: its kind, and a number
abbrev pub bound_bytes : Bound → List ℕ
bound_bytes (entry e) = 0 ∷ e ∷ []
bound_bytes (entry_back e) = 1 ∷ e ∷ []
bound_bytes (term i) = 2 ∷ i ∷ []
bound_bytes (term_back i) = 3 ∷ i ∷ []
bound_bytes (tie t) = 4 ∷ t ∷ []
bound_bytes (tie_back t) = 5 ∷ t ∷ []

unfoldable pub walk_bytes : List Bound → List ℕ
walk_bytes [] = []
walk_bytes (b ∷ bs) = bound_bytes b ++ walk_bytes bs

-- the number of a step's kind, as code has it
abbrev pub kind_number : StepKind → ℕ
kind_number ByWalks = 0
kind_number ByFunctions = 1
kind_number ClosingWalk = 2
kind_number ClosingEntry = 3

-- the kind that a number stands for, or that no kind has it
abbrev pub KindOf : ℕ → Result StepKind UnknownKind → Type 0
KindOf number r = MatchResult r (λ kind. kind_number kind ≡ number) (λ e. (e.0 ≡ number) × (3 < number))

-- a step begins with its kind, a, b, c in 8 bytes, two's complement, and the numbers of bounds of its two walks
unfoldable pub step_head : (kind a b : ℕ) (c : ℤ) (first second : ℕ) → List ℕ
step_head kind a b c first second = (kind ∷ a ∷ b ∷ []) ++ bytes_of 8 (complement_of 8 c) ++ (first ∷ second ∷ [])

abbrev pub step_bytes : Step → List ℕ
step_bytes (by_walks a b c there back) = step_head 0 a b c (length there) (length back) ++ walk_bytes there ++ walk_bytes back
step_bytes (by_functions a b) = step_head 1 a b (pos 0) 0 0
step_bytes (closing_walk a round) = step_head 2 a 0 (pos 0) (length round) 0 ++ walk_bytes round
step_bytes (closing_entry e) = step_head 3 e 0 (pos 0) 0 0

unfoldable pub steps_bytes : List Step → List ℕ
steps_bytes [] = []
steps_bytes (k ∷ ks) = step_bytes k ++ steps_bytes ks

-- the number of groups lost to ties, which is the number of tie steps
unfoldable pub count_ties : List Step → ℕ
count_ties [] = 0
count_ties (by_walks a b c there back ∷ ks) = suc (count_ties ks)
count_ties (by_functions a b ∷ ks) = suc (count_ties ks)
count_ties (closing_walk a round ∷ ks) = count_ties ks
count_ties (closing_entry e ∷ ks) = count_ties ks

-- the head: the length of the whole record, 1, the ties, k, and the number of steps
unfoldable pub head_bytes : (size ties k steps : ℕ) → List ℕ
head_bytes size ties k steps = bytes_of 4 size ++ (1 ∷ ties ∷ []) ++ bytes_of 2 k ++ bytes_of 2 steps

abbrev pub head_length : ℕ
head_length = 10

-- then the clash list, and the steps one behind the other
unfoldable pub reason_record : (list : List ℕ) (steps : List Step) → List ℕ
reason_record list steps =
    head_bytes (head_length + length list + length (steps_bytes steps)) (count_ties steps) (length list) (length steps) ++ list ++ steps_bytes steps

-- the longest step: two walks of T + 1 bounds
abbrev pub step_length : ℕ
step_length = 13 + 4 * (max_terms + 1)

-- the room that is always enough: the head, L numbers, and T + 1 steps
abbrev pub reason_room : ℕ
reason_room = head_length + max_entries + (max_terms + 1) * step_length
