-- The ties of a path are different ones of the first n, so they are few, and the gap along them is within 2^38. And the ties are fewer
-- than the points.
-- Assumes nothing.
use Prim.Native.Nat.{ℕ, zero, suc, ◌+◌, ◌*◌, ◌^◌, ◌≤◌, ◌<◌}
use mathlib.Core.Path.{◌≡◌, refl, sym, ap}
use mathlib.Core.Logic.{⊎_elim}
use mathlib.Core.List.Memᴰ.{append_cases as either}
use mathlib.Core.List.Memᴰ.{cases_cons as this-or-later}
use mathlib.Core.List.Memᴰ.{head as here}
use mathlib.Core.List.Memᴰ.{not-nil}
use mathlib.Core.List.Memᴰ.{tail as later}
use mathlib.Core.List.{List, [], ◌∷◌, ◌++◌, Memᴰ as In}
use lib.IntN.{ℤ, neg_ℤ, ◌+ℤ◌}
use lib.ListN.{length, length-append}
use native.Mathlib.Omega.{arith}
use Rattle.whole.specs.Whole.{plus, minus}
use Rattle.whole.proofs.Parts.{add_parts, neg-plus, neg-minus}
use Rattle.order.specs.First.{Set}
use Rattle.whole.proofs.Pigeon.{Distinct, end, more, pigeon}
use Rattle.sheet.specs.Sheet.{Sheet, count_terms}
use Rattle.reasons.specs.Step.{Step, step_at}
use Rattle.reasons.specs.Rules.{Ties, Tied, TieWithin, TieRight}
use Rattle.reasons.specs.Rules.Ties.{walks, functions}
use Rattle.reasons.specs.Rules.Tied.{itself, before, forth, back}
use Rattle.reasons.specs.Rules.TieRight.{by-walks, by-functions}
use Rattle.reasons.proofs.Paths.{JoinsTwo, right-joins, Grouped, group, turned, on, ties-one}
use Rattle.links.specs.Links.{by}
use Rattle.strides.proofs.Gaps.{parts-most}
use Rattle.linked.specs.Known.{Kin}
use Rattle.linked.proofs.Groups.{itself-at}
use Rattle.linked.proofs.Common.{topmost, above, common, ties-small}

distinct-joined : {p q : List ℕ} → Distinct p → Distinct q → ((x : ℕ) → In x p → In x q → ⊥) → Distinct (p ++ q)
distinct-joined end E f = E
distinct-joined (more {x} {l} h D) E f =
    more (λ m. ⊎_elim h (λ k. f x (here refl) k) (either l m)) (distinct-joined D E (λ y m. f y (later m)))

-- a tie on a path is an earlier one, of the same group
record Touched (steps : List Step) (n i u : ℕ) : Type 0 where
  below : u < n
  a : ℕ
  b : ℕ
  d : ℤ
  ties : Ties (step_at steps u) a b d
  grouped : Grouped steps n i a

module _ {steps : List Step} where
  touched-more : {n i u : ℕ} → Touched steps n i u → Touched steps (suc n) i u
  touched-more T =
      record { below = omega (arith, T.below); a = T.a; b = T.b; d = T.d; ties = T.ties; grouped = group (before T.grouped.tied) }

  touched-on : {n i j u : ℕ} → Grouped steps n i j → Touched steps n j u → Touched steps n i u
  touched-on g T = record { below = T.below; a = T.a; b = T.b; d = T.d; ties = T.ties; grouped = on g.tied T.grouped.tied }

  -- a path over tie n: to it from i, and on from j
  module _ {n i j a b : ℕ} {d : ℤ} (p q : List ℕ) (t : Ties (step_at steps n) a b d) where
    touched-joined : {u : ℕ} → Grouped steps (suc n) i a → Grouped steps (suc n) i j → (In u p → Touched steps n i u) →
        (In u q → Touched steps n j u) → In u (p ++ n ∷ q) → Touched steps (suc n) i u
    touched-joined A J f g m =
        ⊎_elim (λ k. touched-more (f k))
        (λ k. ⊎_elim (λ e. rw e (record { below = omega arith; a = a; b = b; d = d; ties = t; grouped = A })) (λ l. touched-on J (touched-more (g l)))
        (this-or-later k)) (either p m)

    distinct-over : Distinct p → Distinct q → ((u : ℕ) → In u p → Touched steps n i u) → ((u : ℕ) → In u q → Touched steps n j u) →
        (Grouped steps n i j → ⊥) → Distinct (p ++ n ∷ q)
    distinct-over D E f g apart =
        distinct-joined D (more (λ m. let l = (g n m).below in omega arith) E) (λ x m k. ⊎_elim (own x m) (both x m) (this-or-later k))
      where
        own : (x : ℕ) → In x p → x ≡ n → ⊥
        own x m e = omega (arith, (f x m).below)

        both : (x : ℕ) → In x p → In x q → ⊥
        both x m k =
            let T = f x m in
            let U = g x k in
            apart (on T.grouped.tied (turned (rw (sym (ties-one T.ties U.ties).left) at U.grouped.tied)).tied)

  touched : {n i j u : ℕ} {c : ℤ} {p : List ℕ} → Tied steps n i j c p → In u p → Touched steps n i u
  touched itself m = absurd (not-nil m)
  touched (before h) m = touched-more (touched h m)
  touched (forth {n = n} {p} {q} h t k) m =
      touched-joined p q t (group (before h)) (group (forth h t (itself-at n).tied)) (λ l. touched h l) (λ l. touched k l) m
  touched (back {n = n} {p} {q} h t k) m =
      touched-joined p q t (group (back h t (itself-at n).tied)) (group (back h t (itself-at n).tied)) (λ l. touched h l) (λ l. touched k l) m

  pub path-below : {n i j u : ℕ} {c : ℤ} {p : List ℕ} → Tied steps n i j c p → In u p → u < n
  path-below h m = (touched h m).below

  pub distinct : {n i j : ℕ} {c : ℤ} {p : List ℕ} → ((t : ℕ) → t < n → JoinsTwo steps t) → Tied steps n i j c p → Distinct p
  distinct r itself = end
  distinct r (before h) = distinct (λ t l. r t (omega arith)) h
  distinct r (forth {n = n} {a = a} {b = b} {d = d} {p = p} {q} h t k) =
      distinct-over p q t (distinct (λ t l. r t (omega arith)) h) (distinct (λ t l. r t (omega arith)) k) (λ u. touched h) (λ u. touched k)
      (λ g. let G = on (turned h).tied g.tied in (r n (omega arith)).apart a b d t G.gap G.path G.tied)
  distinct r (back {n = n} {a = a} {b = b} {d = d} {p = p} {q} h t k) =
      distinct-over p q t (distinct (λ t l. r t (omega arith)) h) (distinct (λ t l. r t (omega arith)) k) (λ u. touched h) (λ u. touched k)
      (λ g. let G = on (turned g.tied).tied h in (r n (omega arith)).apart a b d t G.gap G.path G.tied)

ties-within : {s : Sheet} {S : Set} {steps : List Step} {n a b : ℕ} {c : ℤ} {k : Step} → TieRight s S steps n k → Ties k a b c → TieWithin c
ties-within (by-walks a b h l p q) walks = l
ties-within (by-functions a b h same) functions = (omega arith, omega arith)

-- within plus or minus k, as whole numbers and what they add up to
abbrev Within : ℤ → ℕ → Type 0
Within c k = (plus c ≤ k) × (minus c ≤ k)

within-neg : (c : ℤ) {k : ℕ} → Within c k → Within (neg_ℤ c) k
within-neg c h = omega (arith, neg-plus c, neg-minus c)

within-over : (c d e : ℤ) (n : ℕ) (p q : List ℕ) → Within c (length p * 2 ^ 31) → TieWithin d → Within e (length q * 2 ^ 31) →
    Within (c +ℤ (d +ℤ e)) (length (p ++ n ∷ q) * 2 ^ 31)
within-over c d e n p q x y z =
    let f = add_parts d e in
    let P = parts-most (c +ℤ (d +ℤ e)) (plus c + (plus d + plus e)) (minus c + (minus d + minus e)) (omega (arith, add_parts c (d +ℤ e))) in
    let l = length-append p (n ∷ q) in
    omega arith

module _ {s : Sheet} {listed : Set} {steps : List Step} where
  -- the ties of a path are at most as many as there are
  pub path-short : {n i j : ℕ} {c : ℤ} {p : List ℕ} → ((u : ℕ) → u < n → TieRight s listed steps u (step_at steps u)) → Tied steps n i j c p →
      length p ≤ n
  path-short {n} r h = pigeon n (distinct (λ u l. right-joins (r u l)) h) (λ u m. path-below h m)

  -- and the gap along it is that many times 2^31 at most
  pub gap-short : {t i j : ℕ} {c : ℤ} {p : List ℕ} → ((u : ℕ) → u < t → TieRight s listed steps u (step_at steps u)) → Tied steps t i j c p →
      Within c (length p * 2 ^ 31)
  gap-short r itself = omega arith
  gap-short r (before h) = gap-short (λ u l. r u (omega arith)) h
  gap-short r (forth {n = n} {c = c} {d} {e} {p} {q} h t k) =
      within-over c d e n p q (gap-short (λ u l. r u (omega arith)) h) (ties-within (r n (omega arith)) t) (gap-short (λ u l. r u (omega arith)) k)
  gap-short r (back {n = n} {c = c} {d} {e} {p} {q} h t k) =
      within-over c (neg_ℤ d) e n p q (gap-short (λ u l. r u (omega arith)) h) (within-neg d (ties-within (r n (omega arith)) t))
      (gap-short (λ u l. r u (omega arith)) k)

module _ {s : Sheet} {steps : List Step} {n : ℕ} {links : List ℕ} (K : Kin s steps n links) where
  -- m points that are linked by the first t ties
  record Points (m t : ℕ) : Type 0 where
    points : List ℕ
    count : length points ≡ m
    distinct : Distinct points
    below : (i : ℕ) → In i points → i < suc (count_terms s)
    linked : (i : ℕ) → In i points → by links i < t

  -- and one that isn't
  one_more : {m t : ℕ} → Points m t → (x : ℕ) → x ≤ count_terms s → t ≤ by links x → Points (suc m) (suc (by links x))
  one_more P x h l = record {
    points = x ∷ P.points;
    count = ap suc P.count;
    distinct = more {x = x} {l = P.points} (λ m. omega (arith, P.linked x m)) P.distinct;
    below = λ i m. ⊎_elim (λ e. omega arith) (λ k. P.below i k) (this-or-later m);
    linked = λ i m. ⊎_elim (λ e. rw e (omega arith)) (λ k. omega (arith, P.linked i k)) (this-or-later m);
  }

  linked-points : (t : ℕ) → t ≤ n → Points t t
  linked-points zero l = record { points = []; count = refl; distinct = end; below = λ i m. absurd (not-nil m); linked = λ i m. absurd (not-nil m) }
  linked-points (suc t) l =
      let record { point = x; there = there; by-is = e; linked = m } = K.each t l in
      rw e at (one_more (linked-points t (omega arith)) x (K.hangs x t there e m).point (omega arith))

  -- so with a topmost point, no more than there are points
  pub kin-few : n ≤ count_terms s
  kin-few =
      let G = itself-at {steps = steps} n {i = 0} in
      let C = common K n (omega arith) 0 0 G.gap G.path (omega arith) G.tied in
      let P = one_more (linked-points n (omega arith)) C.top (above K (ties-small K) (omega arith) C.left).point (topmost C.left) in
      omega (arith, pigeon (suc (count_terms s)) P.distinct P.below, P.count)
