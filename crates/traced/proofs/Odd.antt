-- Which ties come an odd number of times on a path: those of a path turned round are its own, and those of two paths one after the other
-- are on one of them, since what they share cancels.
-- Assumes nothing.
use Prim.Native.Nat.{ℕ, zero, suc, ◌<◌}
use mathlib.Core.Path.{◌≡◌, refl, sym, ap, ◌∙◌}
use mathlib.Core.Bool.{Bool, true, false, xor, false≢true}
use mathlib.Core.Logic.{◌↔◌}
use mathlib.Core.List.Memᴰ.{head as here}
use mathlib.Core.List.Memᴰ.{tail as later}
use mathlib.Core.List.{List, [], ◌∷◌, ◌++◌, Memᴰ as In}
use lib.Dec.{eqb}
use lib.IntN.{ℤ}
use native.Mathlib.Omega.{arith}
use native.Mathlib.Decide.{ℕ_discrete}
use borrow.Author.Tests.{eq-eqb, ne_eqb}
use Rattle.whole.proofs.Pigeon.{Distinct, end, more}
use Rattle.reasons.specs.Step.{Step}
use Rattle.reasons.specs.Rules.{Tied}
use Rattle.reasons.specs.Rules.Tied.{itself, before, forth, back}
use Rattle.reasons.proofs.Paths.{JoinsTwo, ties-one, turned, on, one-path}
use Rattle.routes.proofs.Xor.{xor-false-l, xor-false-r, xor_assoc}
use Rattle.traced.specs.Traced.{oddly}

pub xor_self : (a : Bool) → xor a a ≡ false
unfolding xor
xor_self true = refl
xor_self false = refl

pub xor_comm : (a b : Bool) → xor a b ≡ xor b a
unfolding xor
xor_comm true true = refl
xor_comm true false = refl
xor_comm false true = refl
xor_comm false false = refl

xor-swap : (a b c : Bool) → xor a (xor b c) ≡ xor b (xor a c)
xor-swap a b c = sym (xor_assoc a b c) ∙ ap (λ (x : Bool). xor x c) (xor_comm a b) ∙ xor_assoc b a c

xor-twice : (a b : Bool) → xor a (xor a b) ≡ b
xor-twice a b = sym (xor_assoc a a b) ∙ ap (λ (x : Bool). xor x b) (xor_self a) ∙ xor-false-l b

-- a path over tie n: before it, and behind it
pub odd-over : (u n : ℕ) (p q : List ℕ) → oddly u (p ++ n ∷ q) ≡ xor (eqb u n) (xor (oddly u p) (oddly u q))
odd-over u n [] q = ap (λ (x : Bool). xor (eqb u n) x) (sym (xor-false-l (oddly u q)))
odd-over u n (t ∷ p) q =
    ap (λ (x : Bool). xor (eqb u t) x) (odd-over u n p q) ∙ xor-swap (eqb u t) (eqb u n) (xor (oddly u p) (oddly u q))
    ∙ ap (λ (x : Bool). xor (eqb u n) x) (sym (xor_assoc (eqb u t) (oddly u p) (oddly u q)))

-- i and j are in one group, and `odd` says which ties come an odd number of times on their path
record Along (steps : List Step) (n i j : ℕ) (odd : ℕ → Bool) : Type 0 where
  gap : ℤ
  path : List ℕ
  tied : Tied steps n i j gap path
  is : (u : ℕ) → oddly u path ≡ odd u

-- what goes over tie n, turned round; from before it; on from behind it; and back over it, along what it came by
over-round : (u n : ℕ) (p q p' q' : List ℕ) → oddly u p' ≡ oddly u p → oddly u q' ≡ oddly u q →
    oddly u (q' ++ n ∷ p') ≡ oddly u (p ++ n ∷ q)
over-round u n p q p' q' e f =
    let over = odd-over u n q' p' in
    let whole = odd-over u n p q in
    let comm = xor_comm (oddly u q') (oddly u p') in
    cc

over-after : (u n : ℕ) (p g f r : List ℕ) → oddly u r ≡ xor (oddly u p) (oddly u g) →
    oddly u (r ++ n ∷ f) ≡ xor (oddly u p) (oddly u (g ++ n ∷ f))
over-after u n p g f r e =
    let over = odd-over u n r f in
    let rest = odd-over u n g f in
    let assoc = xor_assoc (oddly u p) (oddly u g) (oddly u f) in
    let swap = xor-swap (eqb u n) (oddly u p) (xor (oddly u g) (oddly u f)) in
    cc

over-before : (u n : ℕ) (h k g r : List ℕ) → oddly u r ≡ xor (oddly u k) (oddly u g) →
    oddly u (h ++ n ∷ r) ≡ xor (oddly u (h ++ n ∷ k)) (oddly u g)
over-before u n h k g r e =
    let over = odd-over u n h r in
    let rest = odd-over u n h k in
    let assoc = xor_assoc (oddly u h) (oddly u k) (oddly u g) in
    let whole = xor_assoc (eqb u n) (xor (oddly u h) (oddly u k)) (oddly u g) in
    cc

over-twice : (u n : ℕ) (h k g f r : List ℕ) → oddly u k ≡ oddly u g → oddly u r ≡ xor (oddly u h) (oddly u f) →
    oddly u r ≡ xor (oddly u (h ++ n ∷ k)) (oddly u (g ++ n ∷ f))
over-twice u n h k g f r e o =
    let there = odd-over u n h k in
    let return = odd-over u n g f in
    let own = xor_assoc (eqb u n) (xor (oddly u h) (oddly u k)) (xor (eqb u n) (xor (oddly u g) (oddly u f))) in
    let swap = xor-swap (xor (oddly u h) (oddly u k)) (eqb u n) (xor (oddly u g) (oddly u f)) in
    let gone = xor-twice (eqb u n) (xor (xor (oddly u h) (oddly u k)) (xor (oddly u g) (oddly u f))) in
    let shared = xor_assoc (oddly u h) (oddly u k) (xor (oddly u g) (oddly u f)) in
    let none = xor-twice (oddly u k) (oddly u f) in
    cc

module _ {steps : List Step} where
  abbrev along : {n i j : ℕ} {c : ℤ} {p : List ℕ} {odd : ℕ → Bool} → Tied steps n i j c p → ((u : ℕ) → oddly u p ≡ odd u) → Along steps n i j odd
  along {c = c} {p} h f = record { gap = c; path = p; tied = h; is = f }

  round : {n i j : ℕ} {c : ℤ} {p : List ℕ} → Tied steps n i j c p → Along steps n j i (λ u. oddly u p)
  round itself = along itself (λ u. refl)
  round (before h) = let A = round h in along (before A.tied) A.is
  round (forth {n = n} {p} {q} h t k) =
      let A = round h in
      let B = round k in
      along (back B.tied t A.tied) (λ u. over-round u n p q A.path B.path (A.is u) (B.is u))
  round (back {n = n} {p} {q} h t k) =
      let A = round h in
      let B = round k in
      along (forth B.tied t A.tied) (λ u. over-round u n p q A.path B.path (A.is u) (B.is u))

module _ (steps : List Step) where
  -- for ties that join two groups, a path is one for its ends
  path-odd : (n : ℕ) {i j : ℕ} {c : ℤ} {p : List ℕ} {odd : ℕ → Bool} → ((t : ℕ) → t < n → JoinsTwo steps t) → Along steps n i j odd →
      Tied steps n i j c p → (u : ℕ) → oddly u p ≡ odd u
  path-odd n r A h u = ap (λ (l : List ℕ). oddly u l) (one-path steps n r h A.tied).1 ∙ A.is u

  pub turned-odd : (n : ℕ) {i j : ℕ} {c d : ℤ} {p q : List ℕ} → ((t : ℕ) → t < n → JoinsTwo steps t) → Tied steps n i j c p →
      Tied steps n j i d q → (u : ℕ) → oddly u q ≡ oddly u p
  turned-odd n r h g = path-odd n r (round h) g

  onwards : (n : ℕ) {i j k : ℕ} {c d : ℤ} {p q : List ℕ} → ((t : ℕ) → t < n → JoinsTwo steps t) → Tied steps n i j c p → Tied steps n j k d q →
      Along steps n i k (λ u. xor (oddly u p) (oddly u q))
  onwards zero r itself g = along g (λ u. sym (xor-false-l _))
  onwards (suc n) r (before h) (before g) =
      let A = onwards n (λ t l. r t (omega arith)) h g in
      along (before A.tied) A.is
  onwards (suc n) {p = p} r (before h) (forth {p = g'} {q = f'} g t f) =
      let A = onwards n (λ t l. r t (omega arith)) h g in
      along (forth A.tied t f) (λ u. over-after u n p g' f' A.path (A.is u))
  onwards (suc n) {p = p} r (before h) (back {p = g'} {q = f'} g t f) =
      let A = onwards n (λ t l. r t (omega arith)) h g in
      along (back A.tied t f) (λ u. over-after u n p g' f' A.path (A.is u))
  onwards (suc n) {q = q} r (forth {p = h'} {q = k'} h t k) (before g) =
      let A = onwards n (λ t l. r t (omega arith)) k g in
      along (forth h t A.tied) (λ u. over-before u n h' k' q A.path (A.is u))
  onwards (suc n) r (forth {a} {b} {d} h t k) (forth g v f) =
      let G = turned (on k (rw (sym (ties-one t v).left) at g)).tied in
      absurd ((r n (omega arith)).apart a b d t G.gap G.path G.tied)
  onwards (suc n) r (forth {p = h'} {q = k'} h t k) (back {p = g'} {q = f'} g v f) =
      let S = ties-one t v in
      let A = onwards n (λ t l. r t (omega arith)) h (rw (sym S.left) at f) in
      let e = turned-odd n (λ t l. r t (omega arith)) (rw (sym S.right) at g) k in
      along (before A.tied) (λ u. over-twice u n h' k' g' f' A.path (e u) (A.is u))
  onwards (suc n) {q = q} r (back {p = h'} {q = k'} h t k) (before g) =
      let A = onwards n (λ t l. r t (omega arith)) k g in
      along (back h t A.tied) (λ u. over-before u n h' k' q A.path (A.is u))
  onwards (suc n) r (back {p = h'} {q = k'} h t k) (forth {p = g'} {q = f'} g v f) =
      let S = ties-one t v in
      let A = onwards n (λ t l. r t (omega arith)) h (rw (sym S.right) at f) in
      let e = turned-odd n (λ t l. r t (omega arith)) (rw (sym S.left) at g) k in
      along (before A.tied) (λ u. over-twice u n h' k' g' f' A.path (e u) (A.is u))
  onwards (suc n) r (back {a} {b} {d} h t k) (back g v f) =
      let G = on k (rw (sym (ties-one t v).right) at g) in
      absurd ((r n (omega arith)).apart a b d t G.gap G.path G.tied)

  pub on-odd : (n : ℕ) {i j k : ℕ} {c d e : ℤ} {p q o : List ℕ} → ((t : ℕ) → t < n → JoinsTwo steps t) → Tied steps n i j c p →
      Tied steps n j k d q → Tied steps n i k e o → (u : ℕ) → oddly u o ≡ xor (oddly u p) (oddly u q)
  on-odd n r h g = path-odd n r (onwards n r h g)

-- where no tie comes twice, those that come an odd number of times are those that come
odd-in : {u : ℕ} (p : List ℕ) → oddly u p ≡ true → In u p
odd-in [] e = absurd (false≢true e)
odd-in {u} (t ∷ p) e = go (ℕ_discrete u t) (λ f. odd-in p f)
  where
    go : Dec (u ≡ t) → (oddly u p ≡ true → In u p) → In u (t ∷ p)
    go (yes f) rest = here f
    go (no f) rest = later (rest (sym (ap (λ (x : Bool). xor x (oddly u p)) (ne_eqb u t f) ∙ xor-false-l (oddly u p)) ∙ e))

out-even : {u : ℕ} (p : List ℕ) → (In u p → ⊥) → oddly u p ≡ false
out-even {u} p h = go (oddly u p) (odd-in p)
  where
    go : (b : Bool) → (b ≡ true → In u p) → b ≡ false
    go true f = absurd (h (f refl))
    go false f = refl

in-odd : {u : ℕ} {p : List ℕ} → Distinct p → In u p → oddly u p ≡ true
in-odd end m = elim m [ ]
in-odd {u} (more {x = t} {l = p} h D) (here e) = simp (eq-eqb u t e, out-even {u = u} p (λ m. h (rw e at m))) (xor-false-r true)
in-odd {u} (more {x = t} {l = p} h D) (later m) = simp (ne_eqb u t (λ e. h (rw e at m)), in-odd D m) (xor-false-l true)

pub odd_is : {u : ℕ} {p : List ℕ} → Distinct p → oddly u p ≡ true ↔ In u p
odd_is {u} {p} D = (odd-in {u = u} p, in-odd {u = u} {p = p} D)
