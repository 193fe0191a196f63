-- Legs as numbers, which legs a sheet and a set of entries have, and walks over them.
-- Assumes nothing.
use Rattle.std.specs.Prelude.{ℕ, ◌+◌, ◌-◌, ◌*◌, ◌/◌, ◌%◌, ◌^◌, ◌≤◌, ◌<◌, ◌≡◌, Bool, true, false, ◌||◌, List, [], ◌∷◌, eqb, length, get_or, ℤ, Option, Some, None}
use Rattle.big.specs.Big.{complement_of}
use Rattle.order.specs.First.{Set}
use Rattle.sheet.specs.Sheet.{Term, unknown, number, shift, apply, apply2, Relation, equal, unequal, at_most, less, Entry, Sheet, count_terms, count_entries, term_at, entry_at}
use Rattle.legs.specs.declared.Stand.{Stand}
use Rattle.legs.specs.declared.Way.{Way}
use Rattle.legs.specs.declared.Way.TheVariants.{Forwards, Strict, Either}

-- gaps are two's complement of five bytes
abbrev pub range : ℕ
range = 256 ^ 5

abbrev pub gap_for : ℤ → ℕ
gap_for c = complement_of 5 c

-- a leg: which way it may be gone, its gap, from, to
abbrev pub word_of : (way gap from to : ℕ) → ℕ
word_of way gap from to = ((way * range + gap) * 256 + from) * 256 + to

abbrev pub way_of : ℕ → ℕ
way_of leg = leg / (65536 * range)

abbrev pub gap_of : ℕ → ℕ
gap_of leg = leg / 65536 % range

abbrev pub from_of : ℕ → ℕ
from_of leg = leg / 256 % 256

abbrev pub to_of : ℕ → ℕ
to_of leg = leg % 256

-- the ways: forwards, forwards as a strict bound, either way; a leg that isn't there is 0
abbrev pub forwards : ℕ
forwards = 1

abbrev pub strictly : ℕ
strictly = 2

abbrev pub either_way : ℕ
either_way = 3

abbrev pub way_says : Way → ℕ
way_says Forwards = forwards
way_says Strict = strictly
way_says Either = either_way

-- a number goes to the zero level, a shift to its argument
abbrev pub term_leg : (level own : ℕ) → Term → ℕ
term_leg level own unknown = 0
term_leg level own (number c) = word_of either_way (gap_for c) own level
term_leg level own (shift a c) = word_of either_way (gap_for c) own a
term_leg level own (apply symbol a) = 0
term_leg level own (apply2 symbol a b) = 0

abbrev pub relation_leg : Relation → (a b : ℕ) (c : ℤ) → ℕ
relation_leg equal a b c = word_of either_way (gap_for c) a b
relation_leg unequal a b c = 0
relation_leg at_most a b c = word_of forwards (gap_for c) a b
relation_leg less a b c = word_of strictly (gap_for c) a b

-- of an entry that is listed
abbrev pub entry_leg : (listed : Bool) → Entry → ℕ
entry_leg true e = relation_leg e.relation e.a e.b e.c
entry_leg false e = 0

-- the legs of entries stand first, then those of terms, then those of ties
abbrev pub term_place : ℕ
term_place = 256

abbrev pub tie_place : ℕ
tie_place = 512

-- the legs of the first n entries, and else as it was
pub record LaidEntries (s : Sheet) (listed : Set) (n : ℕ) (old new : List ℕ) : Type 0 where
  pub size : length new ≡ length old
  pub entries : (e : ℕ) → e < n → get_or new e 0 ≡ entry_leg (listed e) (entry_at s e)
  pub rest : (k : ℕ) → n ≤ k → get_or new k 0 ≡ get_or old k 0

-- the legs of the first n terms, and else as it was
pub record LaidTerms (s : Sheet) (n : ℕ) (old new : List ℕ) : Type 0 where
  pub size : length new ≡ length old
  pub before : (k : ℕ) → k < term_place → get_or new k 0 ≡ get_or old k 0
  pub terms : (i : ℕ) → i < n → get_or new (term_place + i) 0 ≡ term_leg (count_terms s) i (term_at s i)
  pub rest : (k : ℕ) → term_place + n ≤ k → get_or new k 0 ≡ get_or old k 0

-- the legs of all, and else as it was
pub record Laid (s : Sheet) (listed : Set) (old new : List ℕ) : Type 0 where
  pub size : length new ≡ length old
  pub entries : (e : ℕ) → e < count_entries s → get_or new e 0 ≡ entry_leg (listed e) (entry_at s e)
  pub between : (k : ℕ) → count_entries s ≤ k → k < term_place → get_or new k 0 ≡ get_or old k 0
  pub terms : (i : ℕ) → i < count_terms s → get_or new (term_place + i) 0 ≡ term_leg (count_terms s) i (term_at s i)
  pub rest : (k : ℕ) → term_place + count_terms s ≤ k → get_or new k 0 ≡ get_or old k 0

-- a bound is its kind times 256, and a number: two kinds for each sort of leg, the second backwards
abbrev pub leg_at : List ℕ → ℕ → ℕ
leg_at legs bound = get_or legs (bound / 512 * 256 + bound % 256) 0

-- one leg further, forwards or back
pub data Further (leg : ℕ) : (turned : ℕ) → Stand → Stand → Type 0 where
  forth : {s : Stand} → 0 < way_of leg → from_of leg ≡ s.at →
      Further leg 0 s (record { at = to_of leg; gap = (s.gap + gap_of leg) % range; strict = s.strict || eqb (way_of leg) strictly })
  back : {s : Stand} → way_of leg ≡ either_way → to_of leg ≡ s.at →
      Further leg 1 s (record { at = from_of leg; gap = (s.gap + (range - gap_of leg)) % range; strict = s.strict })

-- a walk over bounds, from where it stands to where it comes
pub data Goes (legs : List ℕ) : List ℕ → Stand → Stand → Type 0 where
  stays : {s : Stand} → Goes legs [] s s
  on : {bound : ℕ} {rest : List ℕ} {s t u : Stand} → bound < 6 * 256 → Further (leg_at legs bound) (bound / 256 % 2) s t → Goes legs rest t u →
      Goes legs (bound ∷ rest) s u

abbrev pub start_at : ℕ → Stand
start_at i = record { at = i; gap = 0; strict = false }

-- what is said of a leg further, and of a walk
abbrev pub FurtherSays : (leg turned : ℕ) → Stand → Option Stand → Type 0
FurtherSays leg turned s None = (t : Stand) → Further leg turned s t → ⊥
FurtherSays leg turned s (Some t) = Further leg turned s t

abbrev pub WalkSays : (legs bounds : List ℕ) → Stand → Option Stand → Type 0
WalkSays legs bounds s None = (t : Stand) → Goes legs bounds s t → ⊥
WalkSays legs bounds s (Some t) = Goes legs bounds s t
