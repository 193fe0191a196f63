-- The rules for the steps of a reason, after document 01's section "What a written reason may say": groups and gaps along ties, bounds,
-- walks, tie steps and the closing step. `listed` has the entries that may be used.
-- Assumes nothing.
use Rattle.std.specs.Prelude.{ℕ, suc, ◌+◌, ◌≤◌, ◌<◌, ◌^◌, ◌≡◌, true, List, [], ◌∷◌, ◌++◌, length, ℤ, pos, neg_ℤ, ◌+ℤ◌}
use Rattle.whole.specs.Whole.{plus, minus, ◌≼◌, ◌≺◌}
use Rattle.kind.specs.Kind.{Kind, no_gap, weak, strict, zero_gap, added}
use Rattle.order.specs.First.{Set}
use Rattle.sheet.specs.Sheet.{number, shift, Relation, equal, unequal, at_most, less, Sheet, count_terms, count_entries, term_at, entry_at}
use Rattle.meaning.specs.Meaning.{SameInput}
use Rattle.reasons.specs.Step.{Bound, entry, entry_back, term, term_back, tie, tie_back, Step, by_walks, by_functions, closing_walk, closing_entry, step_at}

-- the points: the terms, and behind them the zero level
abbrev pub zero_level : Sheet → ℕ
zero_level s = count_terms s

abbrev pub Point : Sheet → ℕ → Type 0
Point s i = i ≤ zero_level s

-- the step says a = b + c
pub data Ties : Step → ℕ → ℕ → ℤ → Type 0 where
  walks : {a b : ℕ} {c : ℤ} {there back : List Bound} → Ties (by_walks a b c there back) a b c
  functions : {a b : ℕ} → Ties (by_functions a b) a b (pos 0)

-- the first n steps have i and j in one group: they are tied, i = j + c, along the ties of a path
pub data Tied (steps : List Step) : (n i j : ℕ) (c : ℤ) (path : List ℕ) → Type 0 where
  -- at first each point is a group of its own, tied to itself with gap 0
  itself : {i : ℕ} → Tied steps 0 i i (pos 0) []
  -- what is tied stays so
  before : {n i j : ℕ} {c : ℤ} {path : List ℕ} → Tied steps n i j c path → Tied steps (suc n) i j c path
  -- step n ties a to b, and joins the group of a with that of b; gaps add up along ties
  forth : {n i a b j : ℕ} {c d e : ℤ} {p q : List ℕ} → Tied steps n i a c p → Ties (step_at steps n) a b d → Tied steps n b j e q →
      Tied steps (suc n) i j (c +ℤ (d +ℤ e)) (p ++ n ∷ q)
  back : {n i a b j : ℕ} {c d e : ℤ} {p q : List ℕ} → Tied steps n i b c p → Ties (step_at steps n) a b d → Tied steps n a j e q →
      Tied steps (suc n) i j (c +ℤ (neg_ℤ d +ℤ e)) (p ++ n ∷ q)

-- two points of different groups
abbrev pub Apart : List Step → (n a b : ℕ) → Type 0
Apart steps n a b = (c : ℤ) (path : List ℕ) → Tied steps n a b c path → ⊥

-- two points tied with gap 0
pub record Level (steps : List Step) (n a b : ℕ) : Type 0 where
  pub path : List ℕ
  pub tied : Tied steps n a b (pos 0) path

-- an entry that may be used
pub record Usable (s : Sheet) (listed : Set) (e : ℕ) : Type 0 where
  pub there : e < count_entries s
  pub on_list : listed e ≡ true

-- the gap of a ≤, < or = entry
pub data Gap : Relation → ℤ → Kind → Type 0 where
  of-equal : {c : ℤ} → Gap equal c (weak c)
  of-at-most : {c : ℤ} → Gap at_most c (weak c)
  of-less : {c : ℤ} → Gap less c (strict c)

-- step n may go over the bound, from i to j with the gap g: level i is at most level j + g
pub data Over (s : Sheet) (listed : Set) (steps : List Step) (n : ℕ) : Bound → ℕ → ℕ → Kind → Type 0 where
  -- ≤, < and = entries, the last either way
  an-entry : {e : ℕ} {g : Kind} → Usable s listed e → Gap (entry_at s e).relation (entry_at s e).c g →
      Over s listed steps n (entry e) (entry_at s e).a (entry_at s e).b g
  entry-back : {e : ℕ} → Usable s listed e → (entry_at s e).relation ≡ equal →
      Over s listed steps n (entry_back e) (entry_at s e).b (entry_at s e).a (weak (neg_ℤ (entry_at s e).c))
  -- numbers, either way
  a-number : {i : ℕ} {c : ℤ} → i < count_terms s → term_at s i ≡ number c → Over s listed steps n (term i) i (zero_level s) (weak c)
  number-back : {i : ℕ} {c : ℤ} → i < count_terms s → term_at s i ≡ number c → Over s listed steps n (term_back i) (zero_level s) i (weak (neg_ℤ c))
  -- shifts, either way
  a-shift : {i a : ℕ} {c : ℤ} → i < count_terms s → term_at s i ≡ shift a c → Over s listed steps n (term i) i a (weak c)
  shift_back : {i a : ℕ} {c : ℤ} → i < count_terms s → term_at s i ≡ shift a c → Over s listed steps n (term_back i) a i (weak (neg_ℤ c))
  -- earlier ties, either way
  a-tie : {t a b : ℕ} {c : ℤ} → t < n → Ties (step_at steps t) a b c → Over s listed steps n (tie t) a b (weak c)
  tie-back : {t a b : ℕ} {c : ℤ} → t < n → Ties (step_at steps t) a b c → Over s listed steps n (tie_back t) b a (weak (neg_ℤ c))

-- bounds that chain, each from where the last one went: a walk from i to k, and its total, which is strict where one of them is
pub data Chain (s : Sheet) (listed : Set) (steps : List Step) (n : ℕ) : List Bound → ℕ → ℕ → Kind → Type 0 where
  stop : {i : ℕ} → Chain s listed steps n [] i i zero_gap
  step : {bound : Bound} {rest : List Bound} {i j k : ℕ} {g t : Kind} → Over s listed steps n bound i j g → Chain s listed steps n rest j k t →
      Chain s listed steps n (bound ∷ rest) i k (added g t)

-- and a walk has at most T + 1 bounds
pub record Walk (s : Sheet) (listed : Set) (steps : List Step) (n : ℕ) (walk : List Bound) (i k : ℕ) (total : Kind) : Type 0 where
  pub chain : Chain s listed steps n walk i k total
  pub few : length walk ≤ count_terms s + 1

-- a tie's c lies within plus or minus 2^31
abbrev pub TieWithin : ℤ → Type 0
TieWithin c = (plus c ≤ 2 ^ 31) × (minus c ≤ 2 ^ 31)

-- a tie step as step n: of two points of different groups; from two walks without a strict bound, one giving a ≤ b + c, one b ≤ a - c,
-- or, with c = 0, of two applications of the same kind and symbol whose arguments are tied with gap 0
pub data TieRight (s : Sheet) (listed : Set) (steps : List Step) (n : ℕ) : Step → Type 0 where
  by-walks : {a b : ℕ} {c : ℤ} {there back : List Bound} → Point s a → Point s b → Apart steps n a b → TieWithin c →
      Walk s listed steps n there a b (weak c) → Walk s listed steps n back b a (weak (neg_ℤ c)) → TieRight s listed steps n (by_walks a b c there back)
  by-functions : {a b : ℕ} → a < count_terms s → b < count_terms s → Apart steps n a b → SameInput (Level steps n) (term_at s a) (term_at s b) →
      TieRight s listed steps n (by_functions a b)

-- below zero, or zero with a strict entry
abbrev pub Under : Kind → Type 0
Under no_gap = ⊥
Under (weak c) = c ≺ pos 0
Under (strict c) = c ≼ pos 0

-- a closing step as step n: a walk from a point to itself with such a total, or a ≠ entry on terms tied at exactly its c
pub data Closing (s : Sheet) (listed : Set) (steps : List Step) (n : ℕ) : Step → Type 0 where
  by-walk : {a : ℕ} {round : List Bound} {total : Kind} → Point s a → Walk s listed steps n round a a total → Under total →
      Closing s listed steps n (closing_walk a round)
  by-entry : {e : ℕ} {path : List ℕ} → Usable s listed e → (entry_at s e).relation ≡ unequal →
      Tied steps n (entry_at s e).a (entry_at s e).b (entry_at s e).c path → Closing s listed steps n (closing_entry e)
