-- A walk is copied to its place number by number, and its ties are marked: so it is found.
-- Assumes nothing.
use Prim.Native.Nat.{ℕ, zero, suc, ◌+◌, ◌*◌, ◌≤◌, ◌<◌}
use mathlib.Core.Path.{◌≡◌, refl, sym, ap, ◌∙◌}
use mathlib.Core.Bool.{Bool}
use mathlib.Core.List.Memᴰ.{head as here}
use mathlib.Core.List.Memᴰ.{tail as later}
use mathlib.Core.List.{List, [], ◌∷◌, Memᴰ as In}
use lib.ListN.{length, get_or, take, drop, set, length-drop}
use lib.Seq.{get_or-set_same, get_or-set_other, get_or-take, get_or-drop, take-suc, length-take-le, ext_get_or}
use native.Mathlib.Numerals.{add-one}
use native.Mathlib.Omega.{arith}
use borrow.Author.Count.{below_more}
use Rattle.kind.specs.Kind.{Kind}
use Rattle.cells.specs.Cells.{stride}
use Rattle.layers.specs.Bounds.{Bounds, Goes, Least}
use Rattle.layers.specs.Bounds.Goes.{stop, step}
use Rattle.sketch.specs.Sketch.{place, numbers_at}
use Rattle.needed.specs.Needed.{Marks, Found}
use Rattle.needed.proofs.Marking.{marks-none, marks-both}

-- two runs of the same numbers
same-run : (k p q : ℕ) (xs ys : List ℕ) → p + k ≤ length xs → q + k ≤ length ys → ((i : ℕ) → i < k → get_or xs (p + i) 0 ≡ get_or ys (q + i) 0)
    → take k (drop p xs) ≡ take k (drop q ys)
same-run k p q xs ys l m h = ext_get_or 0 _ _ (long p xs l ∙ sym (long q ys m)) (λ i i<. at i (omega (arith, long p xs l)))
  where
    long : (p : ℕ) (xs : List ℕ) → p + k ≤ length xs → length (take k (drop p xs)) ≡ k
    long p xs l = length-take-le k (drop p xs) (simp length-drop (omega arith))

    at : (i : ℕ) → i < k → get_or (take k (drop p xs)) i 0 ≡ get_or (take k (drop q ys)) i 0
    at i i< = get_or-take k (drop p xs) i 0 i< ∙ get_or-drop p xs i 0 ∙ h i i< ∙ sym (get_or-take k (drop q ys) i 0 i< ∙ get_or-drop q ys i 0)

-- a walk stays where its place does
pub numbers-kept : (at : ℕ) (walks walks' : List ℕ) → length walks' ≡ length walks → (at + 1) * place ≤ length walks
    → get_or walks (at * place) 0 < stride → ((k : ℕ) → at * place ≤ k → k < (at + 1) * place → get_or walks' k 0 ≡ get_or walks k 0)
    → numbers_at walks' at ≡ numbers_at walks at
numbers-kept at walks walks' e l f h =
    ap (λ (k : ℕ). take k (drop (at * place + 1) walks')) (h (at * place) (omega arith) (omega arith))
    ∙ same-run (get_or walks (at * place) 0) (at * place + 1) (at * place + 1) walks' walks (omega arith) (omega arith)
    (λ i i<. h (at * place + 1 + i) (omega arith) (omega arith))

-- the bounds of a walk are among those that it goes over
pub goes-below : {B : Bounds} {i k : ℕ} {t : Kind} {es : List ℕ} → Goes B i k t es → (e : ℕ) → In e es → e < B.count
goes-below stop e m = elim m [ ]
goes-below (step b b< w) e (here f) = omega arith
goes-below (step b b< w) e (later m) = goes-below w e m

in_take : (xs : List ℕ) (k x : ℕ) → x < k → x < length xs → In (get_or xs x 0) (take k xs)
in_take [] k x l m = absurd (omega arith)
in_take (y ∷ ys) zero x l m = absurd (omega arith)
in_take (y ∷ ys) (suc k) zero l m = here refl
in_take (y ∷ ys) (suc k) (suc x) l m = later (in_take ys k x (omega arith) (omega arith))

pub walk-below : {n : ℕ} {B : Bounds} {a b : ℕ} {old out : List ℕ} {k x : ℕ} → Least n B a b old out k → n ≤ length out → x < k
    → get_or out x 0 < B.count
walk-below L l x< = goes-below L.goes _ (in_take _ _ _ x< (omega (arith, L.few)))

-- the first x numbers of out stand from `first` on, with their ties marked
pub record Copied (names out : List ℕ) (first x : ℕ) (walks walks' : List ℕ) (need need' : List Bool) : Type 0 where
  pub copied : (i : ℕ) → i < x → get_or walks' (first + i) 0 ≡ get_or out i 0
  pub before : (k : ℕ) → k < first → get_or walks' k 0 ≡ get_or walks k 0
  pub after : (k : ℕ) → first + x ≤ k → get_or walks' k 0 ≡ get_or walks k 0
  pub marks : Marks names (take x out) need need'

pub none_yet : (names out : List ℕ) (first : ℕ) (walks : List ℕ) (need : List Bool) → Copied names out first 0 walks walks need need
none_yet names out first walks need =
    record { copied = λ i l. absurd (omega arith); before = λ k l. refl; after = λ k l. refl; marks = marks-none names need }

pub one_more : (names out : List ℕ) (first x : ℕ) (walks walks' : List ℕ) {need need' need'' : List Bool} → x < length out → first + x < length walks'
    → Copied names out first x walks walks' need need' → Marks names (get_or out x 0 ∷ []) need' need''
    → Copied names out first (x + 1) walks (set walks' (first + x) (get_or out x 0)) need need''
one_more names out first x walks walks' l m C M =
    record {
      copied = below_more _ x (λ i i<. get_or-set_other walks' (first + x) (first + i) (get_or out x 0) 0 (omega arith) ∙ C.copied i i<)
          (get_or-set_same walks' (first + x) (get_or out x 0) 0 m);
      before = λ k k<. get_or-set_other walks' (first + x) k (get_or out x 0) 0 (omega arith) ∙ C.before k k<;
      after = λ k k≥. get_or-set_other walks' (first + x) k (get_or out x 0) 0 (omega arith) ∙ C.after k (omega arith);
      marks = rw (add-one, take-suc out x 0) (marks-both C.marks M);
    }

-- the whole walk, with its length in front
module _ {n : ℕ} {B : Bounds} {a b : ℕ} {names old out : List ℕ} (at k : ℕ) (walks walks' : List ℕ) {need need' : List Bool} (n≤ : n ≤ stride)
    (room : (at + 1) * place ≤ length walks) (long : n ≤ length out) (e : length walks' ≡ length walks) (L : Least n B a b old out k)
    (C : Copied names out (at * place + 1) k (set walks (at * place) k) walks' need need') where
  count-is : get_or walks' (at * place) 0 ≡ k
  count-is = C.before (at * place) (omega arith) ∙ get_or-set_same walks (at * place) k 0 (omega arith)

  numbers-are : numbers_at walks' at ≡ take k out
  numbers-are =
      ap (λ (k : ℕ). take k (drop (at * place + 1) walks')) count-is
      ∙ same-run k (at * place + 1) 0 walks' out (omega (arith, L.few)) (omega (arith, L.few))
      (λ i i<. C.copied i i< ∙ ap (λ (x : ℕ). get_or out x 0) (omega arith))

  pub found : Found n B a b names at walks walks' need need'
  found =
      record {
        few = rw count-is L.few;
        total = L.total;
        goes = rw numbers-are L.goes;
        least = L.least;
        marks = rw numbers-are C.marks;
        as_long = e;
        before = λ i i<. C.before i (omega arith) ∙ get_or-set_other walks (at * place) i k 0 (omega arith);
        after = λ i i≥. C.after i (omega (arith, L.few)) ∙ get_or-set_other walks (at * place) i k 0 (omega arith);
      }
