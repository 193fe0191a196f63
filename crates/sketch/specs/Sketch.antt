-- A reason in the writer's memory, and the steps that its numbers mean.
-- Assumes nothing.
use Rattle.std.specs.Prelude.{ℕ, zero, suc, ◌+◌, ◌*◌, ◌/◌, ◌%◌, ◌<◌, List, [], ◌∷◌, get_or, take, drop, pos}
use Rattle.sheet.specs.Limits.{max_terms}
use Rattle.sheet.specs.Decode.{each}
use Rattle.reasons.specs.Step.{Bound, entry, entry_back, term, term_back, tie, tie_back, Step, by_walks, by_functions, step_at}
use Rattle.reasons.specs.Rules.{Ties}

-- a bound's name is its kind in the record times 256, and a number
abbrev pub kinds_of : ℕ → List Bound
kinds_of n = entry n ∷ entry_back n ∷ term n ∷ term_back n ∷ tie n ∷ tie_back n ∷ []

unfoldable pub bound_named : ℕ → Bound
bound_named name = get_or (kinds_of (name % 256)) (name / 256) (entry 0)

-- the names of listed bounds, by their numbers in the ledger
unfoldable pub named : (names : List ℕ) → List ℕ → List Bound
named names [] = []
named names (e ∷ es) = bound_named (get_or names e 0) ∷ named names es

-- the walk at a place of the walks' memory: its length, and so many numbers of bounds
abbrev pub place : ℕ
place = max_terms + 2

-- a tie's two walks stand at twice its number, those of the ending behind all ties'
abbrev pub ending : ℕ
ending = 2 * max_terms

abbrev pub walks_length : ℕ
walks_length = (ending + 2) * place

abbrev pub numbers_at : (walks : List ℕ) → ℕ → List ℕ
numbers_at walks at = take (get_or walks (at * place) 0) (drop (at * place + 1) walks)

abbrev pub walk_at : (names walks : List ℕ) → ℕ → List Bound
walk_at names walks at = named names (numbers_at walks at)

-- a tie's number: its points, and how it comes, 0 by functions, else by walks over the first `how - 1` bounds
abbrev pub left_of : ℕ → ℕ
left_of x = x % 256

abbrev pub right_of : ℕ → ℕ
right_of x = x / 256 % 256

abbrev pub how_of : ℕ → ℕ
how_of x = x / 65536

abbrev pub left : List ℕ → ℕ → ℕ
left ties t = left_of (get_or ties t 0)

abbrev pub right : List ℕ → ℕ → ℕ
right ties t = right_of (get_or ties t 0)

-- the step of a tie: its walks stand at twice its number
unfoldable pub tie_step : ℕ → (a b : ℕ) (there back : List Bound) → Step
tie_step zero a b there back = by_functions a b
tie_step (suc at) a b there back = by_walks a b (pos 0) there back

abbrev pub step_of : (names ties walks : List ℕ) → ℕ → Step
step_of names ties walks t =
    tie_step (how_of (get_or ties t 0)) (left ties t) (right ties t) (walk_at names walks (2 * t)) (walk_at names walks (2 * t + 1))

abbrev pub steps_of : (names ties walks : List ℕ) → ℕ → List Step
steps_of names ties walks count = each count (step_of names ties walks)

-- the first t of these steps are the ties that the numbers say, all at 0
pub record Fits (ties : List ℕ) (t : ℕ) (steps : List Step) : Type 0 where
  pub at : (u : ℕ) → u < t → Ties (step_at steps u) (left ties u) (right ties u) (pos 0)
