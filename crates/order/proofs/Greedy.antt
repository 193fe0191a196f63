-- Going down from the highest rank and leaving out what isn't needed ends in the first set, of any property that is upward closed.
-- On the way, by the ranks that are done, no set that has the property comes before the one that stands.
-- Assumes nothing.
use Prim.Native.Nat.{ℕ, ◌≤◌, ◌<◌}
use mathlib.Core.Path.{◌≡◌, sym, ap, ◌∙◌}
use mathlib.Core.Logic.{◌⊎◌, inl, inr, ⊎_elim}
use mathlib.Core.Bool.{true, Bool-discrete}
use native.Mathlib.Omega.{arith}
use native.Mathlib.Decide.{dec_lt}
use Rattle.order.specs.First.{Set, NoTies, Agree, Within, Upward, Before, First}
use Rattle.order.specs.Down.{Next, Cleared, GoneDown, start, leaves, keeps}
use Rattle.order.proofs.Laws.{clash, apart, AgreeFrom, Highest, highest}

-- A comes before B by an entry of rank r or above
pub record BeforeFrom (L : ℕ) (rank : ℕ → ℕ) (r : ℕ) (A B : Set) : Type 0 where
  pub by : Before L rank A B
  pub high : r ≤ rank by.at

-- S has P and every entry of rank below r; from r up no set that has P comes before it
pub record FirstFrom (P : Set → Type 0) (L : ℕ) (rank : ℕ → ℕ) (r : ℕ) (S : Set) : Type 0 where
  pub has : P S
  pub full : (x : ℕ) → x < L → rank x < r → S x ≡ true
  pub least : (B : Set) → P B → AgreeFrom L rank r S B ⊎ BeforeFrom L rank r S B

module _ (P : Set → Type 0) (L : ℕ) (rank : ℕ → ℕ) where
  -- an entry of rank r or above decides, whatever changes below r
  carry : (r k : ℕ) (S T B : Set) → k ≤ r → ((x : ℕ) → x < L → r ≤ rank x → T x ≡ S x) → BeforeFrom L rank r S B → BeforeFrom L rank k T B
  carry r k S T B h f b =
      let m = b.high in
      record {
        by = record {
          at = b.by.at;
          below = b.by.below;
          lacks = f b.by.at b.by.below m ∙ b.by.lacks;
          holds = b.by.holds;
          above = λ y l g. f y l (omega arith) ∙ b.by.above y l g;
        };
        high = omega arith;
      }

  -- the entries of ranks from k up to r are left out
  module _ (k r : ℕ) (S T : Set) (d : FirstFrom P L rank r S) (h : k ≤ r) (c : Cleared L rank k r S T) where
    -- at the highest difference from a set that agrees from r up, T is the one without the entry
    side : (B : Set) → AgreeFrom L rank r S B → Highest L rank k T B → BeforeFrom L rank k T B
    side B e w = under (dec_lt (rank w.at) r)
      where
        under : Dec (rank w.at < r) → BeforeFrom L rank k T B
        under (no g) = absurd (w.differ (c.high w.at w.below (omega arith) ∙ e w.at w.below (omega arith)))
        under (yes g) = ⊎_elim
            (λ u. record { by = record { at = w.at; below = w.below; lacks = u.0; holds = u.1; above = w.above }; high = w.from })
            (λ u. absurd (clash u.0 (c.out w.at w.below w.from g)))
            (apart (T w.at) (B w.at) w.differ)

    down-leaves : P T → FirstFrom P L rank k T
    down-leaves p = record {
      has = p;
      full = λ x l m. c.low x l m ∙ d.full x l (omega arith);
      least = λ B q. ⊎_elim (λ e. ⊎_elim inl (λ w. inr (side B e w)) (highest rank k T B L)) (λ b. inr (carry r k S T B h c.high b)) (d.least B q);
    }

  -- x stays, since the rest lacks P
  module _ (ties : NoTies L rank) (up : Upward L P) (x r : ℕ) (S T U : Set) (d : FirstFrom P L rank r S) (next : Next L rank r x)
      (c : Cleared L rank (rank x) r S T) (n : P T → ⊥) (e : Agree L S U) where
    only : (y : ℕ) → y < L → rank x ≤ rank y → rank y < r → y ≡ x
    only y l m g = let t = next.top y l g in ties y x l next.entry (omega arith)

    -- a set that agrees with S so far and lacks x lies within T
    within : (B : Set) → AgreeFrom L rank r S B → (B x ≡ true → ⊥) → Within L B T
    within B a m y l h = go (dec_lt (rank y) r) (dec_lt (rank y) (rank x))
      where
        go : Dec (rank y < r) → Dec (rank y < rank x) → T y ≡ true
        go (no g) f = c.high y l (omega arith) ∙ a y l (omega arith) ∙ h
        go (yes g) (yes f) = c.low y l f ∙ d.full y l g
        go (yes g) (no f) = absurd (m (ap B (sym (only y l (omega arith) g)) ∙ h))

    stays : (B : Set) → P B → AgreeFrom L rank r S B → Dec (B x ≡ true) → AgreeFrom L rank (rank x) U B
    stays B q a (no m) y l g = absurd (n (up B T (within B a m) q))
    stays B q a (yes m) y l g = go (dec_lt (rank y) r)
      where
        go : Dec (rank y < r) → U y ≡ B y
        go (no w) = sym (e y l) ∙ a y l (omega arith)
        go (yes w) = sym (e y l) ∙ d.full y l w ∙ sym (ap B (only y l g w) ∙ m)

    down-keeps : FirstFrom P L rank (rank x) U
    down-keeps =
        let u = next.under in
        record {
          has = up S U (λ y l h. sym (e y l) ∙ h) d.has;
          full = λ y l m. sym (e y l) ∙ d.full y l (omega arith);
          least = λ B q. ⊎_elim (λ a. inl (stays B q a (Bool-discrete (B x) true))) (λ b. inr (carry r (rank x) S U B (omega arith) (λ y l m. sym (e y l)) b)) (d.least B q);
        }

module _ {P : Set → Type 0} {L : ℕ} {rank : ℕ → ℕ} (ties : NoTies L rank) (up : Upward L P) where
  pub down : {r : ℕ} {S : Set} → GoneDown P L rank r S → FirstFrom P L rank r S
  down (start p f h) = record { has = p; full = λ x l m. f x l; least = λ B q. inl (λ x l m. absurd (omega (arith, h x l))) }
  down (leaves d h c p) = down-leaves P L rank _ _ _ _ (down d) h c p
  down (keeps d next c n e) = down-keeps P L rank ties up _ _ _ _ _ (down d) next c n e

  -- with no rank still to come, what stands is the first set
  pub ends-first : {r : ℕ} {S : Set} → GoneDown P L rank r S → ((x : ℕ) → x < L → r ≤ rank x) → First P L rank S
  ends-first g h =
      let d = down g in
      record { has = d.has; least = λ B q. ⊎_elim (λ a. inl (λ x l. a x l (h x l))) (λ b. inr b.by) (d.least B q) }
