-- How a term is looked up among those met. Nothing here need be believed: proofs/ says what it means for the numbering.
-- Assumes nothing.
use Rattle.std.specs.Prelude.{ℕ, zero, suc, ◌+◌, ◌-◌, cond, List, [], ◌∷◌, ltb, leb, eqb, get_or, take, set, Result, Ok, Err}
use Rattle.sheet.specs.Limits.{max_terms, max_entries}
use Rattle.sheet.specs.declared.TermNumber.{TermNumber}
use Rattle.slips.specs.declared.Slip.{Slip}
use Rattle.slips.specs.Outcome.{Outcome}
use Rattle.slips.specs.Outcome.Outcome.{read, refused}
use Rattle.slips.specs.Says.{number_of, place_of}

-- the place behind a term, and its number; or what is wrong
abbrev pub Read : Type 0
Read = Result (ℕ × TermNumber) Slip

abbrev pub read_says : Read → Outcome
read_says (Ok term) = read term.0 term.1.0
read_says (Err slip) = refused (number_of slip) (place_of slip)

abbrev pub memory_cells : ℕ
memory_cells = max_terms + 1 + max_entries

-- what a reader comes to, and what its memory then holds
pub record Told : Type 0 where
  pub memory : List ℕ
  pub outcome : Outcome

abbrev pub count_in : List ℕ → ℕ
count_in m = get_or m max_terms 0

-- the place of a key in a list, or the list's length
abbrev pub place_in : List ℕ → ℕ → ℕ
place_in [] key = zero
place_in (k ∷ ks) key = cond (eqb k key) zero (suc (place_in ks key))

-- the term of this key, which ends before e
unfoldable pub entered : List ℕ → (key e : ℕ) → Told
entered m key e =
    let i = place_in (take (count_in m) m) key in
    cond (ltb i (count_in m)) (record { memory = m; outcome = read e i })
    (cond (leb max_terms (count_in m)) (record { memory = m; outcome = refused 23 (e - 1) })
    (record { memory = set (set m (count_in m) key) max_terms (count_in m + 1); outcome = read e (count_in m) }))
