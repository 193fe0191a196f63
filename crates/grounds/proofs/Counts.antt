-- What row 16 says: it applies to no term exactly where each symbol has one count of arguments, and a term that it names is the later of two.
-- Assumes nothing.
use Prim.Native.Nat.{ℕ, zero, suc, ◌≤◌, ◌<◌}
use mathlib.Core.Path.{◌≡◌, refl, sym, ap, ap₂, ◌∙◌}
use mathlib.Core.Bool.{Bool, true, false, ◌||◌, true≢false}
use native.Mathlib.Omega.{arith}
use native.Mathlib.Decide.{dec_lt}
use borrow.Author.Count.{below_more}
use borrow.Author.Tests.{eq-eqb, ne_eqb}
use Rattle.sheet.specs.Sheet.{Term, unknown, number, shift, apply, apply2, Sheet, count_terms, term_at}
use Rattle.grounds.specs.Rows.{with_one, with_two, other_count, some_below, other_count_in, lowest}
use Rattle.grounds.specs.OnePart.{OnePart}
use Rattle.grounds.proofs.Lowest.{lowest-none, lowest-clear}
use Rattle.grounds.proofs.Passed.{neither}

-- one below n that is so
pub record Some (n : ℕ) (p : ℕ → Bool) : Type 0 where
  pub which : ℕ
  pub below : which < n
  pub so : p which ≡ true

pub some_of : (n : ℕ) (p : ℕ → Bool) → some_below n p ≡ true → Some n p
unfolding some_below
some_of zero p e = absurd (true≢false (sym e))
some_of (suc n) p e = go (some_below n p) (p n) refl (some_of n p) e
  where
    go : (t u : Bool) → p n ≡ u → (t ≡ true → Some n p) → t || u ≡ true → Some (suc n) p
    go true u r lower o = let s = lower refl in record { which = s.which; below = omega (arith, s.below); so = s.so }
    go false true r lower o = record { which = n; below = omega arith; so = r }
    go false false r lower o = absurd (true≢false (sym o))

pub none_of : (n : ℕ) (p : ℕ → Bool) → ((j : ℕ) → j < n → p j ≡ false) → some_below n p ≡ false
unfolding some_below
none_of zero p h = refl
none_of (suc n) p h = ap₂ ◌||◌ (none_of n p (λ j l. h j (omega arith))) (h n (omega arith))

pub not-one : (n : ℕ) (p : ℕ → Bool) → some_below n p ≡ false → (j : ℕ) → j < n → p j ≡ false
unfolding some_below
not-one zero p e j l = absurd (omega arith)
not-one (suc n) p e j l = let (lower, last) = neither _ _ e in below_more _ _ (not-one n p lower) last j (omega arith)

-- two terms that use one symbol with one argument and with two, whichever stands first
module _ {t u : Term} {symbol a c d : ℕ} (one : t ≡ apply symbol a) (two : u ≡ apply2 symbol c d) where
  one_last : other_count t u ≡ true
  one_last = rw (one, two) (eq-eqb symbol symbol refl)

  two-last : other_count u t ≡ true
  two-last = rw (one, two) (eq-eqb symbol symbol refl)

apart : {symbol a c d : ℕ} → apply symbol a ≡ apply2 symbol c d → ⊥
apart {symbol} e = true≢false (sym (eq-eqb symbol symbol refl) ∙ ap (with_one symbol) e)

-- and no others have two counts
not-both : (t u : Term) → ((symbol a c d : ℕ) → t ≡ apply symbol a → u ≡ apply2 symbol c d → ⊥) →
    ((symbol a c d : ℕ) → u ≡ apply symbol a → t ≡ apply2 symbol c d → ⊥) → other_count t u ≡ false
not-both unknown u h k = refl
not-both (number c) u h k = refl
not-both (shift a c) u h k = refl
not-both (apply f a) u h k = go u h
  where
    go : (u : Term) → ((symbol b c d : ℕ) → apply f a ≡ apply symbol b → u ≡ apply2 symbol c d → ⊥) → with_two f u ≡ false
    go unknown h = refl
    go (number c) h = refl
    go (shift b c) h = refl
    go (apply g b) h = refl
    go (apply2 g c d) h = ne_eqb g f (λ e. h f a c d refl (rw e refl))
not-both (apply2 f c d) u h k = go u k
  where
    go : (u : Term) → ((symbol a c' d' : ℕ) → u ≡ apply symbol a → apply2 f c d ≡ apply2 symbol c' d' → ⊥) → with_one f u ≡ false
    go unknown h = refl
    go (number c) h = refl
    go (shift b c) h = refl
    go (apply g a) h = ne_eqb g f (λ e. h f a c d (rw e refl) refl)
    go (apply2 g b b') h = refl

module _ (s : Sheet) where
  -- a term that row 16 names is the later of two
  pub later-named : (i : ℕ) → other_count_in s i ≡ true → Some i (λ j. other_count (term_at s i) (term_at s j))
  unfolding other_count_in
  later-named i e = some_of i _ e

  -- where it names none, each symbol has one count
  pub one-part : count_terms s ≤ lowest (count_terms s) (other_count_in s) → OnePart s
  unfolding other_count_in
  one-part h = record { one-count = λ i j symbol a c d l m one two. go i j symbol a c d l m one two (dec_lt i j) (dec_lt j i) }
    where
      clear : (i : ℕ) → i < count_terms s → (j : ℕ) → j < i → other_count (term_at s i) (term_at s j) ≡ false
      clear i l = not-one i _ (lowest-clear (count_terms s) (other_count_in s) h i l)

      go : (i j symbol a c d : ℕ) → i < count_terms s → j < count_terms s → term_at s i ≡ apply symbol a → term_at s j ≡ apply2 symbol c d →
          Dec (i < j) → Dec (j < i) → ⊥
      go i j symbol a c d l m one two (yes k) _ = true≢false (sym (two-last one two) ∙ clear j m i k)
      go i j symbol a c d l m one two (no _) (yes k) = true≢false (sym (one_last one two) ∙ clear i l j k)
      go i j symbol a c d l m one two (no h) (no k) =
          let same : i ≡ j = omega arith in apart (sym one ∙ ap (term_at s) same ∙ two)

  -- and where each has, it names none
  pub none_named : OnePart s → count_terms s ≡ lowest (count_terms s) (other_count_in s)
  unfolding other_count_in
  none_named o = sym (lowest-none (count_terms s) (other_count_in s) (λ i l. none_of i _ (λ j m. not-both (term_at s i) (term_at s j)
      (λ symbol a c d p q. o.one-count i j symbol a c d l (omega arith) p q) (λ symbol a c d p q. o.one-count j i symbol a c d (omega arith) l p q))))
