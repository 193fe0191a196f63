-- What code writes of a record: bytes behind bytes, and ties by their ranks.
-- Assumes nothing.
use Rattle.std.specs.Prelude.{ℕ, ◌+◌, ◌*◌, ◌%◌, ◌≤◌, ◌<◌, ◌≡◌, List, [], ◌∷◌, length, get_or, take, drop}
use Rattle.sheet.specs.Limits.{max_terms}
use Rattle.order.specs.First.{Set, Listed}
use Rattle.reasons.specs.Step.{Bound, entry, entry_back, term, term_back, tie, tie_back}
use Rattle.reasons.specs.Pruned.{rank}
use Rattle.sketch.specs.Sketch.{place}

-- new is old with these bytes from `at` up to `end`
pub record Appended (old new : List ℕ) (at end : ℕ) (bytes : List ℕ) : Type 0 where
  pub end_is : end ≡ at + length bytes
  pub bytes-are : take (length bytes) (drop at new) ≡ bytes
  pub before : (k : ℕ) → k < at → get_or new k 0 ≡ get_or old k 0
  pub after : (k : ℕ) → end ≤ k → get_or new k 0 ≡ get_or old k 0
  pub size : length new ≡ length old

-- the numbers of the entries of A below L, rising, from byte `at` on
pub record Lists (L : ℕ) (A : Set) (old new : List ℕ) (at k : ℕ) : Type 0 where
  pub list : List ℕ
  pub count : length list ≡ k
  pub listed : Listed L A list k
  pub written : Appended old new at (at + k) list

-- ties named by their ranks, which stand in a list
abbrev pub ranked_bound : (ranks : List ℕ) → Bound → Bound
ranked_bound ranks (entry e) = entry e
ranked_bound ranks (entry_back e) = entry_back e
ranked_bound ranks (term i) = term i
ranked_bound ranks (term_back i) = term_back i
ranked_bound ranks (tie t) = tie (get_or ranks t 0)
ranked_bound ranks (tie_back t) = tie_back (get_or ranks t 0)

unfoldable pub ranked_walk : (ranks : List ℕ) → List Bound → List Bound
ranked_walk ranks [] = []
ranked_walk ranks (b ∷ bs) = ranked_bound ranks b ∷ ranked_walk ranks bs

-- the first t of them are the ranks of a set
pub record Ranked (keep : Set) (ranks : List ℕ) (t : ℕ) : Type 0 where
  pub at : (u : ℕ) → u < t → get_or ranks u 0 ≡ rank keep u

-- a name of a bound, whose tie is one of the first t
pub record Nameable (t name : ℕ) : Type 0 where
  pub known : name < 1536
  pub earlier : 1024 ≤ name → name % 256 < t

-- the walk at a place of the walks' memory can be read: it is short, and its bounds have names
pub record Readable (t : ℕ) (names walks : List ℕ) (at : ℕ) : Type 0 where
  pub short : get_or walks (at * place) 0 ≤ max_terms + 1
  pub there : (at + 1) * place ≤ length walks
  pub listed : (x : ℕ) → x < get_or walks (at * place) 0 → get_or walks (at * place + 1 + x) 0 < length names
  pub named : (x : ℕ) → x < get_or walks (at * place) 0 → Nameable t (get_or names (get_or walks (at * place + 1 + x) 0) 0)
