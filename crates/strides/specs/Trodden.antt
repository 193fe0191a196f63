-- The legs that step n of a reason may go over, and what a walk over them comes to.
-- Assumes nothing.
use Rattle.std.specs.Prelude.{ℕ, ◌+◌, ◌^◌, ◌≤◌, ◌<◌, ◌≡◌, Bool, true, false, List, length, get_or, take, ℤ}
use Rattle.whole.specs.Whole.{plus, minus}
use Rattle.kind.specs.Kind.{Kind, weak, strict}
use Rattle.order.specs.First.{Set}
use Rattle.sheet.specs.Sheet.{number, shift, Sheet, count_terms, count_entries, term_at, entry_at}
use Rattle.reasons.specs.Step.{Step, step_at}
use Rattle.reasons.specs.Rules.{Ties, TieWithin, Chain}
use Rattle.stated.specs.Said.{walk_of, WalkFormed}
use Rattle.legs.specs.Legs.{gap_for, word_of, either_way, term_leg, entry_leg, term_place, tie_place, Goes, start_at}
use Rattle.legs.specs.declared.Stand.{Stand}

-- c of two bytes, as the numbers, shifts and entries of a sheet have it
abbrev pub Small : ℤ → Type 0
Small c = (plus c ≤ 2 ^ 15) × (minus c ≤ 2 ^ 15)

pub record SmallSheet (s : Sheet) : Type 0 where
  pub numbers : (i : ℕ) (c : ℤ) → term_at s i ≡ number c → Small c
  pub shifts : (i a : ℕ) (c : ℤ) → term_at s i ≡ shift a c → Small c
  pub entries : (e : ℕ) → Small (entry_at s e).c

-- tie t, with its leg
pub record TieLaid (steps : List Step) (legs : List ℕ) (t : ℕ) : Type 0 where
  pub a : ℕ
  pub b : ℕ
  pub c : ℤ
  pub ties : Ties (step_at steps t) a b c
  pub within : TieWithin c
  pub left : a < 256
  pub right : b < 256
  pub leg : get_or legs (tie_place + t) 0 ≡ word_of either_way (gap_for c) a b

-- the legs of the listed entries, of the terms and of the first n ties, each at its own place, and of nothing else
pub record Trodden (s : Sheet) (listed : Set) (steps : List Step) (n : ℕ) (legs : List ℕ) : Type 0 where
  pub size : length legs ≡ 768
  pub entries_fit : count_entries s ≤ 256
  pub terms-fit : count_terms s ≤ 256
  pub entries : (e : ℕ) → e < count_entries s → get_or legs e 0 ≡ entry_leg (listed e) (entry_at s e)
  pub no-entry : (e : ℕ) → count_entries s ≤ e → e < 256 → get_or legs e 0 ≡ 0
  pub terms : (i : ℕ) → i < count_terms s → get_or legs (term_place + i) 0 ≡ term_leg (count_terms s) i (term_at s i)
  pub no-term : (i : ℕ) → count_terms s ≤ i → i < 256 → get_or legs (term_place + i) 0 ≡ 0
  pub ties : (t : ℕ) → t < n → TieLaid steps legs t
  pub no_tie : (t : ℕ) → n ≤ t → t < 256 → get_or legs (tie_place + t) 0 ≡ 0

-- the total of a walk: strict where one of its bounds is
abbrev pub kind_for : (strict : Bool) → ℤ → Kind
kind_for true z = strict z
kind_for false z = weak z

-- a stand and a total say the same
pub record Comes (e : Stand) (total : Kind) : Type 0 where
  pub sum : ℤ
  pub total-is : total ≡ kind_for e.strict sum
  pub gap_is : e.gap ≡ gap_for sum
  pub up : plus sum < 2 ^ 39
  pub down : minus sum < 2 ^ 39

-- the first bounds of a row, as a chain from i that comes to e
pub record Chained (s : Sheet) (listed : Set) (steps : List Step) (n : ℕ) (count : ℕ) (bounds : List ℕ) (i : ℕ) (e : Stand) : Type 0 where
  pub total : Kind
  pub formed : WalkFormed count bounds
  pub chain : Chain s listed steps n (walk_of count bounds) i e.at total
  pub comes : Comes e total

-- a chain from i to k, as a walk over legs
pub record Trod (legs : List ℕ) (count : ℕ) (bounds : List ℕ) (i k : ℕ) (total : Kind) : Type 0 where
  pub end : Stand
  pub goes : Goes legs (take count bounds) (start_at i) end
  pub at-is : end.at ≡ k
  pub comes : Comes end total
