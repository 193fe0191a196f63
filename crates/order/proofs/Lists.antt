-- The rising list of a set's numbers: it grows by one entry at a time, it is one only, and it lists no other set.
-- Assumes nothing.
use Prim.Native.Nat.{ℕ, zero, suc, ◌+◌, ◌≤◌, ◌<◌}
use mathlib.Core.Path.{◌≡◌, sym, ap, ◌∙◌}
use mathlib.Core.Logic.{⊎_elim}
use mathlib.Core.Bool.{true, false, false≢true, or-true, Bool-discrete}
use mathlib.Core.List.{List, [], ◌∷◌}
use lib.Dec.{eqb}
use lib.ListN.{length, get_or, set}
use lib.Seq.{get_or-set_same, get_or-set_other}
use native.Mathlib.Omega.{arith}
use native.Mathlib.Decide.{dec_lt, ℕ_discrete}
use borrow.Author.Tests.{eq-eqb, ne_eqb}
use Rattle.order.specs.First.{Set, set_of, NoTies, Agree, Upward, First, Listed}
use Rattle.order.proofs.Laws.{clash, apart, unique}

pub listed-none : (A : Set) (b : List ℕ) → Listed 0 A b 0
listed-none A b = record {
  entry = λ i h. absurd (omega arith);
  one = λ i h. absurd (omega arith);
  rising = λ i j h l. absurd (omega arith);
  all = λ x h. absurd (omega arith);
}

pub listed-out : (A : Set) (b : List ℕ) (x k : ℕ) → A x ≡ false → Listed x A b k → Listed (x + 1) A b k
listed-out A b x k e l = record {
  entry = λ i h. omega (arith, l.entry i h);
  one = l.one;
  rising = l.rising;
  all = λ y h p. l.all y (less y h p (ℕ_discrete y x)) p;
}
  where
    less : (y : ℕ) → y < x + 1 → A y ≡ true → Dec (y ≡ x) → y < x
    less y h p (yes q) = absurd (clash (sym (ap A q) ∙ p) e)
    less y h p (no q) = omega arith

pub listed_in : (A : Set) (b : List ℕ) (x k : ℕ) → A x ≡ true → k < length b → Listed x A b k → Listed (x + 1) A (set b k x) (k + 1)
listed_in A b x k e h l = record {
  entry = λ i p. entry i p (ℕ_discrete i k);
  one = λ i p. one i p (ℕ_discrete i k);
  rising = λ i j p q. rising i j p q (ℕ_discrete j k);
  all = λ y p q. all y p q (ℕ_discrete y x);
}
  where
    last : get_or (set b k x) k 0 ≡ x
    last = get_or-set_same b k x 0 h

    old : (i : ℕ) → (i ≡ k → ⊥) → get_or (set b k x) i 0 ≡ get_or b i 0
    old i q = get_or-set_other b k i x 0 q

    entry : (i : ℕ) → i < k + 1 → Dec (i ≡ k) → get_or (set b k x) i 0 < x + 1
    entry i p (yes q) = rw (q, last) (omega arith)
    entry i p (no q) = rw (old i q) (let t = l.entry i (omega arith) in omega arith)

    one : (i : ℕ) → i < k + 1 → Dec (i ≡ k) → A (get_or (set b k x) i 0) ≡ true
    one i p (yes q) = rw (q, last) e
    one i p (no q) = rw (old i q) (l.one i (omega arith))

    rising : (i j : ℕ) → i < j → j < k + 1 → Dec (j ≡ k) → get_or (set b k x) i 0 < get_or (set b k x) j 0
    rising i j p q (yes r) = rw (r, last, old i (omega arith)) (l.entry i (omega arith))
    rising i j p q (no r) = rw (old j r, old i (omega arith)) (l.rising i j p (omega arith))

    all : (y : ℕ) → y < x + 1 → A y ≡ true → Dec (y ≡ x) → (i : ℕ) × (i < k + 1) × (get_or (set b k x) i 0 ≡ y)
    all y p q (yes r) = (k, omega arith, last ∙ sym r)
    all y p q (no r) = let t = l.all y (omega arith) q in let u = t.1 in (t.0, omega arith, old t.0 (omega arith) ∙ t.2)

-- of two lists of one set, the first i numbers are the same
module _ (L : ℕ) (A B : Set) (b c : List ℕ) (k m : ℕ) (agree : Agree L A B) (p : Listed L A b k) (q : Listed L B c m) where
  -- the number at i of the one is no larger than that of the other, where the earlier ones are the same
  least : (i : ℕ) → i < k → i < m → ((j : ℕ) → j < i → get_or b j 0 ≡ get_or c j 0) → get_or c i 0 ≤ get_or b i 0
  least i h l e =
      let t = q.all (get_or b i 0) (p.entry i h) (sym (agree _ (p.entry i h)) ∙ p.one i h) in go t.0 t.1 t.2 (dec_lt t.0 i) (dec_lt i t.0)
    where
      go : (j : ℕ) → j < m → get_or c j 0 ≡ get_or b i 0 → Dec (j < i) → Dec (i < j) → get_or c i 0 ≤ get_or b i 0
      go j u v (yes w) y = absurd (omega (arith, p.rising j i w h, e j w))
      go j u v (no w) (yes y) = omega (arith, q.rising i j y u)
      go j u v (no w) (no y) = let z : j ≡ i = omega arith in omega (arith, ap (λ (a : ℕ). get_or c a 0) z)

  -- the one is no longer than the other
  short : ((j : ℕ) → j < k → j < m → get_or b j 0 ≡ get_or c j 0) → m < k → ⊥
  short e h =
      let t = q.all (get_or b m 0) (p.entry m h) (sym (agree _ (p.entry m h)) ∙ p.one m h) in let l = t.1 in
      let r = p.rising t.0 m l h in let f = e t.0 (omega arith) l in let g = t.2 in omega arith

module _ (L : ℕ) (A B : Set) (b c : List ℕ) (k m : ℕ) (agree : Agree L A B) (p : Listed L A b k) (q : Listed L B c m) where
  same-upto : (n i : ℕ) → i < n → i < k → i < m → get_or b i 0 ≡ get_or c i 0
  same-upto zero i h u v = absurd (omega arith)
  same-upto (suc n) i h u v =
      let e : (j : ℕ) → j < i → get_or b j 0 ≡ get_or c j 0 = λ j l. same-upto n j (omega arith) (omega arith) (omega arith) in
      omega (arith, least L A B b c k m agree p q i u v e, least L B A c b m k (λ x l. sym (agree x l)) q p i v u (λ j l. sym (e j l)))

  -- the list of a set is one only
  pub list-unique : (k ≡ m) × ((i : ℕ) → i < k → get_or b i 0 ≡ get_or c i 0)
  list-unique =
      let s : (j : ℕ) → j < k → j < m → get_or b j 0 ≡ get_or c j 0 = λ j u v. same-upto (suc j) j (omega arith) u v in
      let x : m < k → ⊥ = short L A B b c k m agree p q s in
      let y : k < m → ⊥ = short L B A c b m k (λ x l. sym (agree x l)) q p (λ j u v. sym (s j v u)) in
      let e : k ≡ m = omega arith in
      (e, λ i h. s i h (omega arith))

-- two lists of first sets are the same list
pub first-list-unique : (P : Set → Type 0) (L : ℕ) (rank : ℕ → ℕ) → NoTies L rank → (A B : Set) (b c : List ℕ) (k m : ℕ)
    → First P L rank A → First P L rank B → Listed L A b k → Listed L B c m → (k ≡ m) × ((i : ℕ) → i < k → get_or b i 0 ≡ get_or c i 0)
first-list-unique P L rank ties A B b c k m f g p q = list-unique L A B b c k m (unique L rank ties P A B f g) p q

-- where the empty set lacks the property, a list of a set that has it isn't empty
pub not-empty : (P : Set → Type 0) (L : ℕ) → Upward L P → (P (λ x. false) → ⊥) → (A : Set) (b : List ℕ) (k : ℕ) → P A → Listed L A b k → 0 < k
not-empty P L up n A b zero p l = absurd (n (up A (λ x. false) (λ x h e. let t = l.all x h e in let u = t.1 in absurd (omega arith)) p))
not-empty P L up n A b (suc k) p l = omega arith

-- what stands in a list is in its set, and the other way
pub set-in : (es : List ℕ) (i : ℕ) → i < length es → set_of es (get_or es i 0) ≡ true
set-in [] i h = absurd (omega arith)
set-in (y ∷ ys) zero h = rw (eq-eqb y y)
set-in (y ∷ ys) (suc i) h = rw (set-in ys i (omega arith)) (or-true (eqb (get_or ys i 0) y))

pub set_at : (es : List ℕ) (x : ℕ) → set_of es x ≡ true → (i : ℕ) × (i < length es) × (get_or es i 0 ≡ x)
set_at [] x e = absurd (false≢true e)
set_at (y ∷ ys) x e = go (ℕ_discrete x y) (set_at ys x)
  where
    go : Dec (x ≡ y) → (set_of ys x ≡ true → (i : ℕ) × (i < length ys) × (get_or ys i 0 ≡ x)) → (i : ℕ) × (i < suc (length ys)) × (get_or (y ∷ ys) i 0 ≡ x)
    go (yes p) later = (0, omega arith, sym p)
    go (no p) later = let (i, h, q) = later (rw (ne_eqb x y p) at e) in (suc i, omega arith, q)

-- a rising list of entries is the list of its own set
pub lists-itself : (L : ℕ) (es : List ℕ) → ((i : ℕ) → i < length es → get_or es i 0 < L) →
    ((i j : ℕ) → i < j → j < length es → get_or es i 0 < get_or es j 0) → Listed L (set_of es) es (length es)
lists-itself L es entry rising = record { entry = entry; one = set-in es; rising = rising; all = λ x l. set_at es x }

-- the set that a list lists is the list's own
pub listed-agrees : (L : ℕ) (A : Set) (es : List ℕ) → Listed L A es (length es) → Agree L A (set_of es)
listed-agrees L A es p x l = go (Bool-discrete (A x) (set_of es x))
  where
    go : Dec (A x ≡ set_of es x) → A x ≡ set_of es x
    go (yes e) = e
    go (no d) = absurd (⊎_elim
        (λ e. let (i, h, q) = set_at es x e.1 in clash (sym (ap A q) ∙ p.one i h) e.0)
        (λ e. let (i, h, q) = p.all x l e.0 in clash (sym (ap (set_of es) q) ∙ set-in es i h) e.1)
        (apart (A x) (set_of es x) d))

-- a rising list of entries is no longer than there are entries: what rises has reached i at place i
pub listed-short : (L : ℕ) (A : Set) (es : List ℕ) (k : ℕ) → Listed L A es k → k ≤ L
listed-short L A es zero p = omega arith
listed-short L A es (suc k) p = omega (arith, reached k (omega arith), p.entry k (omega arith))
  where
    reached : (i : ℕ) → i < suc k → i ≤ get_or es i 0
    reached zero h = omega arith
    reached (suc i) h = omega (arith, reached i (omega arith), p.rising i (suc i) (omega arith) h)
