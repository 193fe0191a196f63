-- How the number reader comes to what the model does, digit by digit.
-- Assumes nothing.
use Prim.Native.Nat.{ℕ, suc, ◌+◌, ◌*◌, ◌≤◌, ◌<◌}
use mathlib.Core.Path.{◌≡◌, refl, sym, ap, ◌∙◌}
use mathlib.Core.Bool.{cond}
use mathlib.Core.List.{List}
use lib.Dec.{eqb, ltb}
use lib.ListN.{length, get_or, drop, drop_of_length-le, get_or-eq_default}
use lib.Seq.{drop-cons}
use native.Mathlib.Omega.{arith}
use native.Mathlib.Decide.{dec_lt}
use borrow.Author.Tests.{lt-ltb, le-ltb, eq-eqb, ne_eqb}
use Rattle.slips.specs.Outcome.Outcome.{read, refused}
use Rattle.numeral.specs.Model.{digit_of, more, number}

-- a digit stands within the text
pub digit-there : (bs : List ℕ) {e d : ℕ} → d ≡ digit_of (get_or bs e 0) → d < 10 → e < length bs
digit-there bs {e} q h = go (dec_lt e (length bs))
  where
    go : Dec (e < length bs) → e < length bs
    go (yes k) = k
    go (no k) = let z = q ∙ ap digit_of (get_or-eq_default bs 0 {n = e} (omega arith)) in absurd (omega arith)

module _ (bs : List ℕ) (i least limit : ℕ) where
  -- n is read up to e
  pub record Going (n e : ℕ) : Type 0 where
    pub same : number bs i least limit ≡ more limit (drop e bs) e n
    pub small : n ≤ 65535
    pub some : 1 ≤ e

  pub first-none : 10 ≤ digit_of (get_or bs i 0) → refused 20 i ≡ number bs i least limit
  unfolding number
  first-none h = rw (lt-ltb 9 (digit_of (get_or bs i 0)) h) refl

  pub first-least : {d : ℕ} → d ≡ digit_of (get_or bs i 0) → d < 10 → d < least → refused 20 i ≡ number bs i least limit
  unfolding number
  first-least {d} q h l = rw (← q, le-ltb 9 d (omega arith), lt-ltb d least l) refl

  pub first-digit : {d e : ℕ} → d ≡ digit_of (get_or bs i 0) → d < 10 → least ≤ d → e ≡ suc i → Going d e
  unfolding number
  first-digit {d} q h l e = record { same = rw (e, ← q, le-ltb 9 d (omega arith), le-ltb d least l) refl; small = omega arith; some = omega arith }

  -- on from the digit d
  goes : {n e d : ℕ} → Going n e → d ≡ digit_of (get_or bs e 0) → d < 10 →
      number bs i least limit ≡ cond (eqb n 0) (refused 20 e) (cond (ltb limit (10 * n + d)) (refused 22 e) (more limit (drop (suc e) bs) (suc e) (10 * n + d)))
  unfolding more
  goes {n} {e} {d} G q h =
      G.same ∙ rw (drop-cons bs e 0 (digit-there bs q h), ← q, lt-ltb d 10 h) refl

  pub behind-zero : {n e d : ℕ} → Going n e → d ≡ digit_of (get_or bs e 0) → d < 10 → n ≡ 0 → refused 20 e ≡ number bs i least limit
  behind-zero {n} G p h z = sym (goes G p h ∙ rw (eq-eqb n 0 z) refl)

  pub out_of_range : {n e d v : ℕ} → Going n e → d ≡ digit_of (get_or bs e 0) → d < 10 → (n ≡ 0 → ⊥) → v ≡ 10 * n + d → limit < v → refused 22 e ≡ number bs i least limit
  out_of_range {n} {d = d} G p h z q l = sym (goes G p h ∙ rw (ne_eqb n 0 z, lt-ltb limit (10 * n + d) (omega arith)) refl)

  pub one_more : {n e d v f : ℕ} → Going n e → d ≡ digit_of (get_or bs e 0) → d < 10 → (n ≡ 0 → ⊥) → v ≡ 10 * n + d → v ≤ limit → limit ≤ 65535 → f ≡ suc e → Going v f
  one_more {n} {d = d} G p h z q l k f = record {
    same = rw (f, q) (goes G p h ∙ rw (ne_eqb n 0 z, le-ltb limit (10 * n + d) (omega arith)) refl);
    small = omega arith;
    some = omega arith;
  }

  pub ended : {n e : ℕ} → Going n e → 10 ≤ digit_of (get_or bs e 0) → read e n ≡ number bs i least limit
  unfolding more
  ended {n} {e} G h = sym (G.same ∙ go (dec_lt e (length bs)))
    where
      go : Dec (e < length bs) → more limit (drop e bs) e n ≡ read e n
      go (yes k) = rw (drop-cons bs e 0 k, le-ltb (digit_of (get_or bs e 0)) 10 h) refl
      go (no k) = rw (drop_of_length-le bs {i = e} (omega arith)) refl
