-- What ties rest on, as the writer finds it: walks, and marks of the ties that are gone over or lie on a path between arguments.
-- Assumes nothing.
use Rattle.std.specs.Prelude.{ℕ, suc, ◌+◌, ◌-◌, ◌*◌, ◌%◌, ◌≤◌, ◌<◌, ◌≡◌, Bool, true, ◌⊎◌, pos, length, get_or}
use mathlib.Core.List.{List, [], ◌∷◌, Memᴰ as In}
use Rattle.kind.specs.Kind.{Kind, zero_gap}
use Rattle.closure.specs.Walk.{Tight}
use Rattle.order.specs.First.{marked}
use Rattle.sheet.specs.Sheet.{Term, apply, apply2, Sheet, term_at}
use Rattle.meaning.specs.Meaning.{SameInput}
use Rattle.settled.specs.Settled.{points}
use Rattle.walked.specs.Borne.{Few}
use Rattle.layers.specs.Bounds.{Bounds, bounds, from, to, Listed, Goes}
use Rattle.layers.specs.declared.Bound.{Bound}
use Rattle.reasons.specs.Step.{Step}
use Rattle.reasons.specs.Rules.{Tied}
use Rattle.sketch.specs.Sketch.{place, numbers_at, how_of, left, right, Fits}

-- one of these bounds has the name of tie t
pub record NamedIn (names es : List ℕ) (t : ℕ) : Type 0 where
  pub bound : ℕ
  pub there : In bound es
  pub a-tie : 1024 ≤ get_or names bound 0
  pub is : get_or names bound 0 % 256 ≡ t

-- the ties that these bounds name are marked, and no others than before
pub record Marks (names es : List ℕ) (old new : List Bool) : Type 0 where
  pub on : (t : ℕ) → NamedIn names es t → marked new t ≡ true
  pub stays : (t : ℕ) → marked old t ≡ true → marked new t ≡ true
  pub only : (t : ℕ) → marked new t ≡ true → (marked old t ≡ true) ⊎ NamedIn names es t

-- a walk from a to b over B of fewer than n bounds, than which none is tighter, stands at a place of the walks' memory, and its ties are
-- marked; nothing else is changed
pub record Found (n : ℕ) (B : Bounds) (a b : ℕ) (names : List ℕ) (at : ℕ) (walks walks' : List ℕ) (need need' : List Bool) : Type 0 where
  pub few : get_or walks' (at * place) 0 < n
  pub total : Kind
  pub goes : Goes B a b total (numbers_at walks' at)
  pub least : {t : Kind} → Few (Listed B) (n - 1) a b t → Tight total t
  pub marks : Marks names (numbers_at walks' at) need need'
  pub as_long : length walks' ≡ length walks
  pub before : (k : ℕ) → k < at * place → get_or walks' k 0 ≡ get_or walks k 0
  pub after : (k : ℕ) → (at + 1) * place ≤ k → get_or walks' k 0 ≡ get_or walks k 0

-- so there and back, at two places
pub record FoundBoth (n : ℕ) (B : Bounds) (a b : ℕ) (names : List ℕ) (at : ℕ) (walks walks' : List ℕ) (need need' : List Bool) : Type 0 where
  pub walks-between : List ℕ
  pub need-between : List Bool
  pub there : Found n B a b names at walks walks-between need need-between
  pub back : Found n B b a names (at + 1) walks-between walks' need-between need'

-- so behind bound e, which closes a walk
pub record FoundRound (n : ℕ) (B : Bounds) (names : List ℕ) (e at : ℕ) (walks walks' : List ℕ) (need need' : List Bool) : Type 0 where
  pub need-between : List Bool
  pub way : Found n B (to B e) (from B e) names at walks walks' need need-between
  pub first : Marks names (e ∷ []) need-between need'

-- the path between i and j is marked
pub record PathOn (ties : List ℕ) (t : ℕ) (need : List Bool) (i j : ℕ) : Type 0 where
  pub path : List ℕ
  pub tied : (steps : List Step) → Fits ties t steps → Tied steps t i j (pos 0) path
  pub on : (x : ℕ) → In x path → marked need x ≡ true

-- a walk from a to b over the first e bounds that comes to 0, and its ties are marked
pub record WalkOn (n : ℕ) (list : List Bound) (names walks : List ℕ) (need : List Bool) (e a b at : ℕ) : Type 0 where
  pub few : get_or walks (at * place) 0 < n
  pub goes : Goes (bounds e list) a b zero_gap (numbers_at walks at)
  pub on : (t : ℕ) → NamedIn names (numbers_at walks at) t → marked need t ≡ true

-- i and j are arguments of two applications, first and first or second and second
pub data Facing : Term → Term → ℕ → ℕ → Type 0 where
  one : {symbol a a' : ℕ} → Facing (apply symbol a) (apply symbol a') a a'
  first : {symbol a b a' b' : ℕ} → Facing (apply2 symbol a b) (apply2 symbol a' b') a a'
  second : {symbol a b a' b' : ℕ} → Facing (apply2 symbol a b) (apply2 symbol a' b') b b'

-- tie u rests on tie t
pub data Leads (s : Sheet) (names ties walks : List ℕ) (u : ℕ) : ℕ → Type 0 where
  there : {t e : ℕ} → how_of (get_or ties u 0) ≡ suc e → NamedIn names (numbers_at walks (2 * u)) t → Leads s names ties walks u t
  back : {t e : ℕ} → how_of (get_or ties u 0) ≡ suc e → NamedIn names (numbers_at walks (2 * u + 1)) t → Leads s names ties walks u t
  arguments : {t i j : ℕ} {path : List ℕ} → how_of (get_or ties u 0) ≡ 0 → Facing (term_at s (left ties u)) (term_at s (right ties u)) i j →
      ((steps : List Step) → Fits ties u steps → Tied steps u i j (pos 0) path) → In t path → Leads s names ties walks u t

-- a needed tie is led to by one behind it that is needed
pub record Led (s : Sheet) (names ties walks : List ℕ) (need : List Bool) (count t : ℕ) : Type 0 where
  pub by : ℕ
  pub later : t < by
  pub there : by < count
  pub needed : marked need by ≡ true
  pub leads : Leads s names ties walks by t

-- all that the needed ones of the first count ties rest on is marked, and their walks are found; nothing is marked but that
pub record Gathered (s : Sheet) (list : List Bound) (names ties : List ℕ) (count : ℕ) (walks walks' : List ℕ) (need need' : List Bool) : Type 0 where
  pub functions : (t : ℕ) → t < count → marked need' t ≡ true → how_of (get_or ties t 0) ≡ 0
      → SameInput (PathOn ties t need') (term_at s (left ties t)) (term_at s (right ties t))
  pub there : (t e : ℕ) → t < count → marked need' t ≡ true → how_of (get_or ties t 0) ≡ suc e
      → WalkOn (points s) list names walks' need' e (left ties t) (right ties t) (2 * t)
  pub back : (t e : ℕ) → t < count → marked need' t ≡ true → how_of (get_or ties t 0) ≡ suc e
      → WalkOn (points s) list names walks' need' e (right ties t) (left ties t) (2 * t + 1)
  pub stays : (t : ℕ) → marked need t ≡ true → marked need' t ≡ true
  pub only : (t : ℕ) → marked need' t ≡ true → (marked need t ≡ true) ⊎ Led s names ties walks' need' count t
  pub walks-kept : (k : ℕ) → 2 * count * place ≤ k → get_or walks' k 0 ≡ get_or walks k 0
