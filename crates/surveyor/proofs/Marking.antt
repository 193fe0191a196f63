-- The entry numbers of a list, marked one by one as far as they rise below L; behind the last, the marks are the list's.
-- Assumes nothing.
use Prim.Native.Nat.{ℕ, zero, suc, ◌+◌, ◌≤◌, ◌<◌}
use mathlib.Core.Path.{◌≡◌, refl, sym, ap, ◌∙◌, fun_ext}
use mathlib.Core.Bool.{Bool, true, false, ◌||◌, or-true, or-false, or_assoc}
use mathlib.Core.List.{List, [], ◌∷◌, ◌++◌}
use lib.Dec.{eqb}
use lib.ListN.{length, get_or, set, take, replicate, length-replicate, length-set}
use lib.Seq.{get_or-set_same, get_or-set_other, take-suc, take_all}
use native.Mathlib.Numerals.{add-one}
use native.Mathlib.Omega.{arith}
use native.Mathlib.Decide.{ℕ_discrete}
use borrow.Author.Tests.{eq-eqb, ne_eqb}
use Rattle.order.specs.First.{set_of, marked}
use Rattle.surveyor.specs.Surveyed.{Rises}
use Rattle.surveyor.specs.Inside.{Marks}

-- the first x numbers rise below L, and are those marked; the next is to be `least` or more
pub record SoFar (L : ℕ) (list : List ℕ) (listed : List Bool) (least x : ℕ) : Type 0 where
  pub size : length listed ≡ 256
  pub rising : (k : ℕ) → suc k < x → get_or list k 0 < get_or list (suc k) 0
  pub below : (k : ℕ) → k < x → get_or list k 0 < L
  pub first : x ≡ 0 → least ≡ 0
  pub next : (k : ℕ) → suc k ≡ x → least ≡ suc (get_or list k 0)
  pub same : (e : ℕ) → marked listed e ≡ set_of (take x list) e

-- in a row of one value there is no other
pub all-blank : {A : Type 0} (blank : A) (n k : ℕ) → get_or (replicate n blank) k blank ≡ blank
all-blank blank zero k = refl
all-blank blank (suc n) zero = refl
all-blank blank (suc n) (suc k) = all-blank blank n k

pub none_yet : (L : ℕ) (list : List ℕ) → SoFar L list (replicate 256 false) 0 0
none_yet L list = record {
  size = length-replicate 256 false;
  rising = λ k l. absurd (omega arith);
  below = λ k l. absurd (omega arith);
  first = λ e. refl;
  next = λ k e. absurd (omega arith);
  same = all-blank false 256;
}

set_more : (l : List ℕ) (y e : ℕ) → set_of (l ++ (y ∷ [])) e ≡ set_of l e || eqb e y
set_more [] y e = or-false (eqb e y)
set_more (x ∷ l) y e = ap (λ (t : Bool). eqb e x || t) (set_more l y e) ∙ sym (or_assoc (eqb e x) (set_of l e) (eqb e y))

module _ {L : ℕ} {list : List ℕ} {listed : List Bool} {least x : ℕ} (S : SoFar L list listed least x) where
  pub one_more : x < length list → least ≤ get_or list x 0 → get_or list x 0 < L → get_or list x 0 < 256 →
      SoFar L list (set listed (get_or list x 0) true) (get_or list x 0 + 1) (x + 1)
  one_more l a b c = record {
    size = length-set listed (get_or list x 0) true ∙ S.size;
    rising = λ k h. rising k h (ℕ_discrete (suc k) x);
    below = λ k h. below k h (ℕ_discrete k x);
    first = λ e. absurd (omega arith);
    next = λ k e. let h : k ≡ x = omega arith in rw h (omega arith);
    same = λ e. same e (ℕ_discrete e (get_or list x 0)) ∙ sym (set_more (take x list) (get_or list x 0) e)
        ∙ ap (λ (l : List ℕ). set_of l e) (sym (take-suc list x 0 l) ∙ ap (λ (n : ℕ). take n list) (sym (add-one x)));
  }
    where
      rising : (k : ℕ) → suc k < x + 1 → Dec (suc k ≡ x) → get_or list k 0 < get_or list (suc k) 0
      rising k h (yes e) = let f = S.next k e in rw e (omega arith)
      rising k h (no n) = S.rising k (omega arith)

      below : (k : ℕ) → k < x + 1 → Dec (k ≡ x) → get_or list k 0 < L
      below k h (yes e) = rw e b
      below k h (no n) = S.below k (omega arith)

      same : (e : ℕ) → Dec (e ≡ get_or list x 0) → marked (set listed (get_or list x 0) true) e ≡ set_of (take x list) e || eqb e (get_or list x 0)
      same e (yes h) =
          ap (λ (y : ℕ). marked (set listed (get_or list x 0) true) y) h ∙ get_or-set_same listed (get_or list x 0) true false (omega (arith, S.size))
          ∙ sym (or-true (set_of (take x list) e)) ∙ ap (λ (t : Bool). set_of (take x list) e || t) (sym (eq-eqb e (get_or list x 0) h))
      same e (no n) =
          get_or-set_other listed (get_or list x 0) e true false n ∙ S.same e ∙ sym (or-false (set_of (take x list) e))
          ∙ ap (λ (t : Bool). set_of (take x list) e || t) (sym (ne_eqb e (get_or list x 0) n))

  -- one that is less than the next is to be, or L or more
  pub falls : x < length list → get_or list x 0 < least → Rises L list → ⊥
  falls l h R = go x refl
    where
      go : (y : ℕ) → x ≡ y → ⊥
      go zero e = omega (arith, S.first e)
      go (suc k) e =
          let f = S.next k (sym e) in
          let r = R.rising k (omega arith) in
          let g = ap (λ (y : ℕ). get_or list y 0) e in
          omega arith

  pub none_left : length list ≤ x → x ≤ length list → Marks L list listed
  none_left l m = record {
    rises = record { rising = λ k h. S.rising k (omega arith); below = λ k h. S.below k (omega arith) };
    size = S.size;
    same = fun_ext (λ e. S.same e ∙ ap (λ (t : List ℕ). set_of t e) (take_all x list l));
  }
