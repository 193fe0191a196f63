-- Sets of entries below a limit L, the mission's order of them over a ranking, and the first set that has a property.
-- Assumes nothing.
use Rattle.std.specs.Prelude.{ℕ, ◌<◌, ◌≡◌, ◌⊎◌, Bool, true, false, ◌||◌, List, [], ◌∷◌, eqb, get_or}

-- which entries are in
abbrev pub Set : Type 0
Set = ℕ → Bool

-- all entries
abbrev pub every : Set
every x = true

-- the entries of a list of numbers
abbrev pub set_of : List ℕ → Set
set_of [] x = false
set_of (y ∷ ys) x = eqb x y || set_of ys x

-- the entries that a list of marks marks
abbrev pub marked : List Bool → Set
marked marks x = get_or marks x false

-- a ranking without ties
abbrev pub NoTies : ℕ → (ℕ → ℕ) → Type 0
NoTies L rank = (x y : ℕ) → x < L → y < L → rank x ≡ rank y → x ≡ y

-- the ranking by number
abbrev pub number : ℕ → ℕ
number x = x

-- the same entries below L
abbrev pub Agree : ℕ → Set → Set → Type 0
Agree L A B = (x : ℕ) → x < L → A x ≡ B x

-- each entry of A is one of B
abbrev pub Within : ℕ → Set → Set → Type 0
Within L A B = (x : ℕ) → x < L → A x ≡ true → B x ≡ true

-- a set that contains one that has P has P
abbrev pub Upward : ℕ → (Set → Type 0) → Type 0
Upward L P = (A B : Set) → Within L A B → P A → P B

-- at the highest-ranked entry that is in one and not in the other, A is the one without it
pub record Before (L : ℕ) (rank : ℕ → ℕ) (A B : Set) : Type 0 where
  pub at : ℕ
  pub below : at < L
  pub lacks : A at ≡ false
  pub holds : B at ≡ true
  pub above : (y : ℕ) → y < L → rank at < rank y → A y ≡ B y

-- A has P, and comes before every other set that has P
pub record First (P : Set → Type 0) (L : ℕ) (rank : ℕ → ℕ) (A : Set) : Type 0 where
  pub has : P A
  pub least : (B : Set) → P B → Agree L A B ⊎ Before L rank A B

-- the first k of b are the numbers of the entries of A below L, rising
pub record Listed (L : ℕ) (A : Set) (b : List ℕ) (k : ℕ) : Type 0 where
  pub entry : (i : ℕ) → i < k → get_or b i 0 < L
  pub one : (i : ℕ) → i < k → A (get_or b i 0) ≡ true
  pub rising : (i j : ℕ) → i < j → j < k → get_or b i 0 < get_or b j 0
  pub all : (x : ℕ) → x < L → A x ≡ true → (i : ℕ) × (i < k) × (get_or b i 0 ≡ x)
