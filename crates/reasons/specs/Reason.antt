-- What a step rests on, the entries behind it, and a reason for a list of entries.
-- Assumes nothing.
use Rattle.std.specs.Prelude.{ℕ, suc, ◌<◌, ◌≡◌, true, ◌↔◌, length, ℤ, pos}
use mathlib.Core.List.{List, Memᴰ as In}
use Rattle.order.specs.First.{Set, set_of}
use Rattle.sheet.specs.Sheet.{Term, apply, apply2, Sheet, count_entries, term_at, entry_at}
use Rattle.reasons.specs.Step.{entry, entry_back, tie, tie_back, Step, by_functions, closing_entry, step_at, walks_of}
use Rattle.reasons.specs.Rules.{Tied, TieRight, Closing}

-- the path between arguments of two applications, first with first and second with second
pub data Between (steps : List Step) (n : ℕ) : Term → Term → List ℕ → Type 0 where
  one : {symbol a a' : ℕ} {path : List ℕ} → Tied steps n a a' (pos 0) path → Between steps n (apply symbol a) (apply symbol a') path
  first : {symbol a b a' b' : ℕ} {path : List ℕ} → Tied steps n a a' (pos 0) path →
      Between steps n (apply2 symbol a b) (apply2 symbol a' b') path
  second : {symbol a b a' b' : ℕ} {path : List ℕ} → Tied steps n b b' (pos 0) path →
      Between steps n (apply2 symbol a b) (apply2 symbol a' b') path

-- step n, which is `step`, rests on step t: a walk on the ties that it goes over, a function tie on the ties of the paths between its
-- arguments, a closing ≠ entry on those of the path between its terms
pub data Rests (s : Sheet) (steps : List Step) (n : ℕ) : Step → ℕ → Type 0 where
  over : {step : Step} {t : ℕ} → In (tie t) (walks_of step) → Rests s steps n step t
  over-back : {step : Step} {t : ℕ} → In (tie_back t) (walks_of step) → Rests s steps n step t
  arguments : {a b t : ℕ} {path : List ℕ} → Between steps n (term_at s a) (term_at s b) path → In t path → Rests s steps n (by_functions a b) t
  terms : {e t : ℕ} {c : ℤ} {path : List ℕ} → Tied steps n (entry_at s e).a (entry_at s e).b c path → In t path →
      Rests s steps n (closing_entry e) t

-- what step n rests on is gathered through every earlier tie: itself, and what a gathered step rests on
pub data Gathered (s : Sheet) (steps : List Step) (n : ℕ) : ℕ → Type 0 where
  own : Gathered s steps n n
  further : {t u : ℕ} → Gathered s steps n t → Rests s steps t (step_at steps t) u → Gathered s steps n u

-- the entries of a step itself: those of its walks, and the ≠ entry
pub data Uses : Step → ℕ → Type 0 where
  forwards : {step : Step} {e : ℕ} → In (entry e) (walks_of step) → Uses step e
  backwards : {step : Step} {e : ℕ} → In (entry_back e) (walks_of step) → Uses step e
  unequal : {e : ℕ} → Uses (closing_entry e) e

-- the entries behind step n: its own, with those behind every tie that it rests on
pub record Behind (s : Sheet) (steps : List Step) (n e : ℕ) : Type 0 where
  pub step : ℕ
  pub gathered : Gathered s steps n step
  pub uses : Uses (step_at steps step) e

-- ties, and behind them one closing step, the last, that use entries of a set only
pub record Closes (s : Sheet) (listed : Set) (steps : List Step) (last : ℕ) : Type 0 where
  pub count : length steps ≡ suc last
  pub ties : (n : ℕ) → n < last → TieRight s listed steps n (step_at steps n)
  pub closing : Closing s listed steps last (step_at steps last)

-- a reason for a list: the entries behind its last step are exactly the list
pub record Reason (s : Sheet) (list : List ℕ) (steps : List Step) : Type 0 where
  pub last : ℕ
  pub closes : Closes s (set_of list) steps last
  pub exactly : (e : ℕ) → e < count_entries s → set_of list e ≡ true ↔ Behind s steps last e

-- no step that the last one doesn't rest on
pub record NothingSpare (s : Sheet) (steps : List Step) (last : ℕ) : Type 0 where
  pub needed : (n : ℕ) → n < last → Gathered s steps last n
