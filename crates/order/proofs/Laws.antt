-- The order of sets is a strict total order up to agreement, and a first set is one only.
-- Assumes nothing.
use Prim.Native.Nat.{ℕ, zero, suc, ◌≤◌, ◌<◌}
use mathlib.Core.Path.{◌≡◌, refl, sym, ap, ◌∙◌}
use mathlib.Core.Logic.{◌⊎◌, inl, inr, ⊎_elim}
use mathlib.Core.Bool.{Bool, true, false, ◌||◌, ◌&&◌, true≢false, Bool-discrete}
use lib.Dec.{ltb}
use native.Mathlib.Omega.{arith}
use native.Mathlib.Decide.{dec_lt, ℕ_discrete}
use borrow.Author.Tests.{lt-ltb, le-ltb}
use Rattle.order.specs.First.{Set, NoTies, Agree, Within, Upward, Before, First, number}

pub clash : {b : Bool} → b ≡ true → b ≡ false → ⊥
clash p q = true≢false (sym p ∙ q)

-- two Bools that differ are false and true, or true and false
pub apart : (a b : Bool) → (a ≡ b → ⊥) → ((a ≡ false) × (b ≡ true)) ⊎ ((a ≡ true) × (b ≡ false))
apart false false h = absurd (h refl)
apart false true h = inl (refl, refl)
apart true false h = inr (refl, refl)
apart true true h = absurd (h refl)

-- the same entries of rank r and above
abbrev pub AgreeFrom : ℕ → (ℕ → ℕ) → ℕ → Set → Set → Type 0
AgreeFrom L rank r A B = (x : ℕ) → x < L → r ≤ rank x → A x ≡ B x

-- the highest-ranked difference of rank r or above
pub record Highest (L : ℕ) (rank : ℕ → ℕ) (r : ℕ) (A B : Set) : Type 0 where
  pub at : ℕ
  pub below : at < L
  pub from : r ≤ rank at
  pub differ : A at ≡ B at → ⊥
  pub above : (y : ℕ) → y < L → rank at < rank y → A y ≡ B y

-- what holds below n, and at n, holds below n + 1
one_more : (Q : ℕ → Type 0) (n : ℕ) → ((y : ℕ) → y < n → Q y) → Q n → (y : ℕ) → y < suc n → Q y
one_more Q n f q y h = go (ℕ_discrete y n)
  where
    go : Dec (y ≡ n) → Q y
    go (yes e) = rw e q
    go (no e) = f y (omega arith)

module _ (rank : ℕ → ℕ) (r : ℕ) (A B : Set) where
  pub highest : (L : ℕ) → AgreeFrom L rank r A B ⊎ Highest L rank r A B
  highest zero = inl (λ x h. absurd (omega arith))
  highest (suc n) = go (Bool-discrete (A n) (B n)) (dec_lt (rank n) r) (highest n)
    where
      same : (r ≤ rank n → A n ≡ B n) → AgreeFrom n rank r A B ⊎ Highest n rank r A B → AgreeFrom (suc n) rank r A B ⊎ Highest (suc n) rank r A B
      same e (inl a) = inl (one_more (λ y. r ≤ rank y → A y ≡ B y) n a e)
      same e (inr h) = inr (record {
        at = h.at;
        below = omega (arith, h.below);
        from = h.from;
        differ = h.differ;
        above = one_more (λ y. rank h.at < rank y → A y ≡ B y) n h.above (λ l. e (omega (arith, h.from)));
      })

      other : (A n ≡ B n → ⊥) → r ≤ rank n → AgreeFrom n rank r A B ⊎ Highest n rank r A B → Highest (suc n) rank r A B
      other d f (inl a) = record {
        at = n;
        below = omega arith;
        from = f;
        differ = d;
        above = one_more (λ y. rank n < rank y → A y ≡ B y) n (λ y l m. a y l (omega arith)) (λ l. absurd (omega arith));
      }
      other d f (inr h) = pick (dec_lt (rank h.at) (rank n))
        where
          pick : Dec (rank h.at < rank n) → Highest (suc n) rank r A B
          pick (yes p) = record {
            at = n;
            below = omega arith;
            from = f;
            differ = d;
            above = one_more (λ y. rank n < rank y → A y ≡ B y) n (λ y l m. h.above y l (omega arith)) (λ l. absurd (omega arith));
          }
          pick (no p) = record {
            at = h.at;
            below = omega (arith, h.below);
            from = h.from;
            differ = h.differ;
            above = one_more (λ y. rank h.at < rank y → A y ≡ B y) n h.above (λ l. absurd (p l));
          }

      go : Dec (A n ≡ B n) → Dec (rank n < r) → AgreeFrom n rank r A B ⊎ Highest n rank r A B → AgreeFrom (suc n) rank r A B ⊎ Highest (suc n) rank r A B
      go (yes e) q i = same (λ l. e) i
      go (no d) (yes q) i = same (λ l. absurd (omega arith)) i
      go (no d) (no q) i = inr (other d (omega arith) i)

module _ (L : ℕ) (rank : ℕ → ℕ) where
  pub irreflexive : (A B : Set) → Agree L A B → Before L rank A B → ⊥
  irreflexive A B e b = clash (e b.at b.below ∙ b.holds) b.lacks

  -- of two sets that differ one comes before the other
  pub total : (A B : Set) → Agree L A B ⊎ (Before L rank A B ⊎ Before L rank B A)
  total A B = ⊎_elim (λ a. inl (λ x l. a x l (omega arith))) (λ h. inr (side h)) (highest rank 0 A B L)
    where
      side : Highest L rank 0 A B → Before L rank A B ⊎ Before L rank B A
      side h = ⊎_elim
          (λ e. inl (record { at = h.at; below = h.below; lacks = e.0; holds = e.1; above = h.above }))
          (λ e. inr (record { at = h.at; below = h.below; lacks = e.1; holds = e.0; above = λ y l m. sym (h.above y l m) }))
          (apart (A h.at) (B h.at) h.differ)

  -- sets that agree stand at the same place of the order
  pub before-agree : (A B A' B' : Set) → Agree L A A' → Agree L B B' → Before L rank A B → Before L rank A' B'
  before-agree A B A' B' p q b = record {
    at = b.at;
    below = b.below;
    lacks = sym (p b.at b.below) ∙ b.lacks;
    holds = sym (q b.at b.below) ∙ b.holds;
    above = λ y l m. sym (p y l) ∙ b.above y l m ∙ q y l;
  }

  -- a first set has nothing to spare: of its parts only itself has the property
  pub minimal : (P : Set → Type 0) (A B : Set) → First P L rank A → P B → Within L B A → Agree L A B
  minimal P A B a p w = ⊎_elim (λ e. e) (λ b. absurd (clash (w b.at b.below b.holds) b.lacks)) (a.least B p)

  -- a set that agrees with a first one is first
  pub first-agree : (P : Set → Type 0) → Upward L P → (A B : Set) → Agree L A B → First P L rank A → First P L rank B
  first-agree P up A B e f = record {
    has = up A B (λ x l h. sym (e x l) ∙ h) f.has;
    least = λ C p. ⊎_elim (λ a. inl (λ x l. sym (e x l) ∙ a x l)) (λ b. inr (before-agree A C B C e (λ x l. refl) b)) (f.least C p);
  }

  module _ (ties : NoTies L rank) where
    pub transitive : (A B C : Set) → Before L rank A B → Before L rank B C → Before L rank A C
    transitive A B C b c = go (dec_lt (rank b.at) (rank c.at)) (dec_lt (rank c.at) (rank b.at))
      where
        go : Dec (rank b.at < rank c.at) → Dec (rank c.at < rank b.at) → Before L rank A C
        go (yes p) q = record {
          at = c.at;
          below = c.below;
          lacks = b.above c.at c.below p ∙ c.lacks;
          holds = c.holds;
          above = λ y l m. b.above y l (omega arith) ∙ c.above y l m;
        }
        go (no p) (yes q) = record {
          at = b.at;
          below = b.below;
          lacks = b.lacks;
          holds = sym (c.above b.at b.below q) ∙ b.holds;
          above = λ y l m. b.above y l m ∙ c.above y l (omega arith);
        }
        go (no p) (no q) =
            absurd (clash (ap B (ties c.at b.at c.below b.below (omega arith)) ∙ b.holds) c.lacks)

    pub asymmetric : (A B : Set) → Before L rank A B → Before L rank B A → ⊥
    asymmetric A B b c = irreflexive A A (λ x l. refl) (transitive A B A b c)

    -- a first set is one only
    pub unique : (P : Set → Type 0) (A B : Set) → First P L rank A → First P L rank B → Agree L A B
    unique P A B a b = ⊎_elim (λ e. e) (λ l. ⊎_elim (λ e x h. sym (e x h)) (λ m. absurd (asymmetric A B l m)) (b.least A a.has)) (a.least B b.has)

    -- no set that has the property comes before a first one
    pub none_before : (P : Set → Type 0) (A B : Set) → First P L rank A → P B → Before L rank B A → ⊥
    none_before P A B a p b =
        ⊎_elim (λ e. irreflexive B A (λ x l. sym (e x l)) b) (λ l. asymmetric A B l b) (a.least B p)

pub number-ties : (L : ℕ) → NoTies L number
number-ties L x y l m e = e

-- A without x and with every entry of lower rank: it contains each set that comes before A by x
abbrev pub lower : (ℕ → ℕ) → Set → ℕ → Set
lower rank A x y = ltb (rank y) (rank x) || (ltb (rank x) (rank y) && A y)

-- a set that has the property is the first where none of those has it
module _ (P : Set → Type 0) (L : ℕ) (rank : ℕ → ℕ) (ties : NoTies L rank) (up : Upward L P) (A : Set) where
  contains : (B : Set) (b : Before L rank B A) → Within L B (lower rank A b.at)
  contains B b y l e = go (dec_lt (rank y) (rank b.at)) (dec_lt (rank b.at) (rank y))
    where
      go : Dec (rank y < rank b.at) → Dec (rank b.at < rank y) → lower rank A b.at y ≡ true
      go (yes p) q = rw (lt-ltb _ _ p)
      go (no p) (yes q) = rw (le-ltb (rank y) (rank b.at) (omega arith), lt-ltb _ _ q) (sym (b.above y l q) ∙ e)
      go (no p) (no q) = absurd (clash (sym (ap B (ties y b.at l b.below (omega arith))) ∙ e) b.lacks)

  pub first_of : P A → ((x : ℕ) → x < L → A x ≡ true → P (lower rank A x) → ⊥) → First P L rank A
  first_of has needed = record { has = has; least = λ B p. ⊎_elim (λ e. inl e) (⊎_elim (λ b. inr b) (λ b. absurd (before B p b))) (total L rank A B) }
    where
      before : (B : Set) → P B → Before L rank B A → ⊥
      before B p b = needed b.at b.below b.holds (up B (lower rank A b.at) (contains B b) p)

-- what holds of every part of a set for which it holds fails upward
pub upward-not : (L : ℕ) (H : Set → Type 0) → ((A B : Set) → Within L A B → H B → H A) → Upward L (λ S. H S → ⊥)
upward-not L H down A B w n h = n (down A B w h)
