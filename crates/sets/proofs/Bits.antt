-- Which bits words have, and which ties a set has by the bits of its words.
-- Assumes nothing.
use Prim.Native.Nat.{ℕ, zero, suc, ◌+◌, ◌-◌, ◌*◌, ◌/◌, ◌%◌, ◌^◌, ◌≤◌, ◌<◌, min, max}
use native.Mathlib.Nat.{zero-div, div-one, mod-lt, div-eq_of_lt, lt_of_lt_of_le}
use native.Mathlib.Numerals.{one-add}
use native.Mathlib.Decide.{ℕ_discrete, dec_lt}
use native.Mathlib.Omega.{arith}
use mathlib.Core.Path.{◌≡◌, refl, sym, ap, ap₂, ◌∙◌}
use mathlib.Core.Bool.{Bool, true, false, cond, not, ◌&&◌, ◌||◌, xor}
use lib.Dec.{eqb, ltb, lit<, eqb-zero-suc, eqb-suc-zero, eqb-suc-suc}
use lib.Arith.{digits_mod}
use lib.Pow.{pow_mono, shr-shr, shl_exact}
use lib.Bits.{bit_and, bit_or, bit_xor, differ, and_step, or_step, xor_step, and_shr, or_shr, xor_shr, shifted_half, shifted_even}
use borrow.Author.Tests.{lt-ltb, le-ltb, eq-eqb, ne_eqb}
use Rattle.sets.specs.declared.Ties.{Ties}
use Rattle.sets.specs.Sets.{bit, has}

-- ---- the bits of a word

pub shr-bit : (w f k : ℕ) → bit (w / 2 ^ f) k ≡ bit w (f + k)
unfolding bit
shr-bit w f k = ap (λ (x : ℕ). eqb (x % 2) 1) (shr-shr w f k)

pub low_bit : (w : ℕ) → bit w 0 ≡ eqb (w % 2) 1
unfolding bit
low_bit w = ap (λ (x : ℕ). eqb (x % 2) 1) (div-one w)

pub next_bit : (w k : ℕ) → bit w (suc k) ≡ bit (w / 2) k
next_bit w k = ap (bit w) (sym (one-add k)) ∙ sym (shr-bit w 1 k)

pub zero_bit : (k : ℕ) → bit 0 k ≡ false
unfolding bit
zero_bit k = ap (λ (x : ℕ). eqb (x % 2) 1) (zero-div (2 ^ k))

-- no bit is beyond a word's own
pub small-bit : {w : ℕ} (n k : ℕ) → w < 2 ^ n → n ≤ k → bit w k ≡ false
unfolding bit
small-bit n k h l = ap (λ (x : ℕ). eqb (x % 2) 1) (div-eq_of_lt (lt_of_lt_of_le h (pow_mono l)))

power-bit : (t k : ℕ) → bit (1 * 2 ^ t) k ≡ eqb k t
power-bit zero zero = low_bit 1
power-bit zero (suc k) = next_bit 1 k ∙ zero_bit k ∙ sym (eqb-suc-zero k)
power-bit (suc t) zero = low_bit (1 * 2 ^ suc t) ∙ ap (λ (x : ℕ). eqb x 1) (shifted_even 1 t) ∙ sym (eqb-zero-suc t)
power-bit (suc t) (suc k) =
    next_bit (1 * 2 ^ suc t) k ∙ ap (λ (x : ℕ). bit x k) (shifted_half 1 t) ∙ power-bit t k ∙ sym (eqb-suc-suc k t)

-- ---- the bits of what an operation makes of two words

abbrev digit : Bool → ℕ
digit b = cond b 1 0

digit-small : (b : Bool) → digit b < 2
digit-small true = lit< tt
digit-small false = lit< tt

digit-bit : (b : Bool) → eqb (digit b) 1 ≡ b
digit-bit true = refl
digit-bit false = refl

pub bit-digit : (x : ℕ) → x < 2 → x ≡ digit (eqb x 1)
bit-digit zero h = refl
bit-digit (suc zero) h = refl
bit-digit (suc (suc x)) h = absurd (omega arith)

-- an operation that works on each digit apart
module _ (op f : ℕ → ℕ → ℕ) (g : Bool → Bool → Bool)
    (shr : (w v k : ℕ) → op w v / 2 ^ k ≡ op (w / 2 ^ k) (v / 2 ^ k))
    (step : (w v : ℕ) → op w v ≡ op (w / 2) (v / 2) * 2 + f (w % 2) (v % 2))
    (on-digits : (p q : Bool) → f (digit p) (digit q) ≡ digit (g p q)) where
  odd : (x y : ℕ) → op x y % 2 ≡ digit (g (eqb (x % 2) 1) (eqb (y % 2) 1))
  odd x y =
      let p = eqb (x % 2) 1 in
      let q = eqb (y % 2) 1 in
      ap (λ (n : ℕ). n % 2)
      (step x y ∙ ap (λ (n : ℕ). op (x / 2) (y / 2) * 2 + n)
      (ap₂ f (bit-digit (x % 2) (mod-lt x (lit< tt))) (bit-digit (y % 2) (mod-lt y (lit< tt))) ∙ on-digits p q))
      ∙ digits_mod (op (x / 2) (y / 2)) (digit-small (g p q))

  op-bit : (w v k : ℕ) → bit (op w v) k ≡ g (bit w k) (bit v k)
  unfolding bit
  op-bit w v k = ap (λ (n : ℕ). eqb (n % 2) 1) (shr w v k) ∙ ap (λ (n : ℕ). eqb n 1) (odd (w / 2 ^ k) (v / 2 ^ k)) ∙ digit-bit _

pub or-bit : (w v k : ℕ) → bit (bit_or w v) k ≡ bit w k || bit v k
or-bit = op-bit bit_or max ◌||◌ or_shr or_step on
  where
    on : (p q : Bool) → max (digit p) (digit q) ≡ digit (p || q)
    on true true = refl
    on true false = refl
    on false true = refl
    on false false = refl

and-bit : (w v k : ℕ) → bit (bit_and w v) k ≡ bit w k && bit v k
and-bit = op-bit bit_and min ◌&&◌ and_shr and_step on
  where
    on : (p q : Bool) → min (digit p) (digit q) ≡ digit (p && q)
    on true true = refl
    on true false = refl
    on false true = refl
    on false false = refl

differ-digits : (p q : Bool) → differ (digit p) (digit q) ≡ digit (xor p q)
unfolding xor
differ-digits true true = refl
differ-digits true false = refl
differ-digits false true = refl
differ-digits false false = refl

pub xor-bit : (w v k : ℕ) → bit (bit_xor w v) k ≡ xor (bit w k) (bit v k)
xor-bit = op-bit bit_xor differ xor xor_shr xor_step differ-digits

xor-and : (p q : Bool) → xor p (p && q) ≡ p && not q
unfolding xor
xor-and true true = refl
xor-and true false = refl
xor-and false q = refl

pub without-bit : (w v k : ℕ) → bit (bit_xor w (bit_and w v)) k ≡ bit w k && not (bit v k)
without-bit w v k = xor-bit w (bit_and w v) k ∙ ap (xor (bit w k)) (and-bit w v k) ∙ xor-and (bit w k) (bit v k)

-- ---- the ties of a set

module _ (a : Ties) {t : ℕ} where
  pub has-low : t < 64 → has a t ≡ bit a.low t
  unfolding has
  has-low h = ap (λ (b : Bool). cond b (bit a.low t) (cond (ltb t 128) (bit a.high (t % 64)) false)) (lt-ltb t 64 h)

  above : 64 ≤ t → {b : Bool} → ltb t 128 ≡ b → has a t ≡ cond b (bit a.high (t % 64)) false
  unfolding has
  above h e = ap₂ (λ (b c : Bool). cond b (bit a.low t) (cond c (bit a.high (t % 64)) false)) (le-ltb t 64 h) e

  pub has-high : 64 ≤ t → t < 128 → has a t ≡ bit a.high (t % 64)
  has-high h l = above h (lt-ltb t 128 l)

  pub has-none : 128 ≤ t → has a t ≡ false
  has-none h = above (omega arith) (le-ltb t 128 h)

  has-by : {b : Bool} → (t < 64 → bit a.low t ≡ b) → (64 ≤ t → t < 128 → bit a.high (t % 64) ≡ b) → (128 ≤ t → false ≡ b) → has a t ≡ b
  has-by {b} low high none = go (dec_lt t 64) (dec_lt t 128)
    where
      go : Dec (t < 64) → Dec (t < 128) → has a t ≡ b
      go (yes h) d = has-low h ∙ low h
      go (no n) (yes l) = let h : 64 ≤ t = omega arith in has-high h l ∙ high h l
      go (no n) (no m) = let h : 128 ≤ t = omega arith in has-none h ∙ none h

pub empty : (t : ℕ) → has (record { low = 0; high = 0 }) t ≡ false
empty t = has-by _ (λ h. zero_bit t) (λ h l. zero_bit (t % 64)) (λ h. refl)

-- what is made of each bit of two sets' words is made of each of their ties
module _ (g : Bool → Bool → Bool) (nothing : g false false ≡ false) (a b r : Ties)
    (low : (k : ℕ) → bit r.low k ≡ g (bit a.low k) (bit b.low k)) (high : (k : ℕ) → bit r.high k ≡ g (bit a.high k) (bit b.high k)) where
  pub has-each : (t : ℕ) → has r t ≡ g (has a t) (has b t)
  has-each t =
      has-by r
      (λ h. low t ∙ sym (ap₂ g (has-low a h) (has-low b h)))
      (λ h l. high (t % 64) ∙ sym (ap₂ g (has-high a h l) (has-high b h l)))
      (λ h. sym (ap₂ g (has-none a h) (has-none b h) ∙ nothing))

-- ---- a set of one tie

eqb_same : (a b c d : ℕ) → (a ≡ b → c ≡ d) → (c ≡ d → a ≡ b) → eqb a b ≡ eqb c d
eqb_same a b c d to from = go (ℕ_discrete a b)
  where
    go : Dec (a ≡ b) → eqb a b ≡ eqb c d
    go (yes e) = eq-eqb a b e ∙ sym (eq-eqb c d (to e))
    go (no n) = ne_eqb a b n ∙ sym (ne_eqb c d (λ e. n (from e)))

one_bit : (t k : ℕ) → t < 64 → bit (1 * 2 ^ t % 2 ^ 64) k ≡ eqb k t
one_bit t k h = ap (λ (w : ℕ). bit w k) (shl_exact 1 t 64 (lit< tt) (omega arith)) ∙ power-bit t k

module _ {t : ℕ} where
  other : {u : ℕ} → (u ≡ t → ⊥) → false ≡ eqb u t
  other {u} n = sym (ne_eqb u t n)

  pub only-low : t < 64 → (u : ℕ) → has (record { low = 1 * 2 ^ t % 2 ^ 64; high = 0 }) u ≡ eqb u t
  only-low h u = has-by _ (λ l. one_bit t u h) (λ l m. zero_bit (u % 64) ∙ other (λ e. omega arith)) (λ l. other (λ e. omega arith))

  pub only_high : 64 ≤ t → t < 128 → (u : ℕ) → has (record { low = 0; high = 1 * 2 ^ (t - 64) % 2 ^ 64 }) u ≡ eqb u t
  only_high h k u =
      has-by _
      (λ l. zero_bit u ∙ other (λ e. omega arith))
      (λ l m. one_bit (t - 64) (u % 64) (omega arith) ∙ eqb_same (u % 64) (t - 64) u t (λ e. omega arith) (λ e. omega arith))
      (λ l. other (λ e. omega arith))
