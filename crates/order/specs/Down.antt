-- Going down from the highest rank and leaving out what isn't needed: what that is, for any property of sets.
-- Assumes nothing.
use Rattle.std.specs.Prelude.{ℕ, ◌≤◌, ◌<◌, ◌≡◌, true, false}
use Rattle.order.specs.First.{Set, Agree}

-- x is the highest-ranked of the entries of rank below r
pub record Next (L : ℕ) (rank : ℕ → ℕ) (r x : ℕ) : Type 0 where
  pub entry : x < L
  pub under : rank x < r
  pub top : (y : ℕ) → y < L → rank y < r → rank y ≤ rank x

-- T is S without the entries of ranks from lo to hi, lo included and hi not
pub record Cleared (L : ℕ) (rank : ℕ → ℕ) (lo hi : ℕ) (S T : Set) : Type 0 where
  pub out : (x : ℕ) → x < L → lo ≤ rank x → rank x < hi → T x ≡ false
  pub low : (x : ℕ) → x < L → rank x < lo → T x ≡ S x
  pub high : (x : ℕ) → x < L → hi ≤ rank x → T x ≡ S x

-- the ranks from r on, r included, are done, and S is what stands
pub data GoneDown (P : Set → Type 0) (L : ℕ) (rank : ℕ → ℕ) : ℕ → Set → Type 0 where
  -- at first every entry is in, and every rank is still to come
  start : {r : ℕ} {S : Set} → P S → ((x : ℕ) → x < L → S x ≡ true) → ((x : ℕ) → x < L → rank x < r) → GoneDown P L rank r S
  -- T, which is S without the next entries, has P: they are left out
  leaves : {k r : ℕ} {S T : Set} → GoneDown P L rank r S → k ≤ r → Cleared L rank k r S T → P T → GoneDown P L rank k T
  -- T, which is S without the next entry x, lacks P: x is needed and stays, and U is S again
  keeps : {x r : ℕ} {S T U : Set} → GoneDown P L rank r S → Next L rank r x → Cleared L rank (rank x) r S T → (P T → ⊥) → Agree L S U →
      GoneDown P L rank (rank x) U
